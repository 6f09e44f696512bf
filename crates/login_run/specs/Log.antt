-- The lines of a log, as its bytes come.
use Rattle.std.specs.Prelude.{◌≡◌, ℕ, ◌-◌, ◌^◌, ◌<◌, ◌≤◌, Bool, true, false, List, [], ◌∷◌, ◌++◌}
use Rattle.std.specs.Prelude.{length, OnOk, Option, Some, None, Result, Ok, Err}
use Rattle.std.specs.Io.KnownBytes.{Consumes, IsAtEnd}
use Rattle.std.specs.List.{slice_split}
use Rattle.key_text.specs.Lines.{is_newline}
use Rattle.run_faults.specs.Named.{file_limit}
use Rattle.run_faults.specs.RunFault.{RunFault, run_fault_of}
use Rattle.run_faults.specs.declared.cause.Cause.TheVariants.{NoMemory}
use Rattle.krl_audit.specs.declared.auditor.Auditor.{Auditor}
use Rattle.audit_lines.specs.declared.why.Refusal.TheVariants.{TooLong}
use Rattle.login_text.specs.Outcome.{Outcome}
use Rattle.login_text.specs.declared.why.LoginWhy.TheVariants as whys
use Rattle.login_text.specs.declared.why.Packed.{Packed as PackedForm}
use Rattle.login_run.specs.Finding.{AreOutcomes, Lacks, Placed, Tells, TellsLines, next_number}
use Rattle.login_run.specs.Finding.{number_after, place, placed_after}
use Rattle.login_run.specs.Packed.{packed_at}
use Rattle.login_run.specs.declared.batch.LineStart.{LineStart}
use Rattle.login_run.specs.declared.batch.Stop.{Stop}
use Rattle.login_run.specs.declared.batch.Stop.TheVariants as stops
use Rattle.login_run.specs.declared.judging.NotRead.TheVariants as reasons

-- ---- parts of lines

-- the parts of bytes between line feeds; the last one may be unfinished
abbrev pub parts_of : List ℕ → List (List ℕ)
parts_of bytes = slice_split is_newline bytes

-- the first part is behind these bytes
abbrev pub onto : (front : List ℕ) → List (List ℕ) → List (List ℕ)
onto front [] = []
onto front (part ∷ parts) = (front ++ part) ∷ parts

-- No line, with this many before it, shows that the log is not text.
abbrev pub AreText : ℕ → List (List ℕ) → Type 0
AreText number [] = Unit {0}
AreText number (line ∷ lines) =
    (packed_at number line ≡ None) × AreText (next_number number) lines

-- the first of the parts is too long for a line
pub record BeginLong (parts : List (List ℕ)) : Type 0 where
  pub long : List ℕ
  pub later : List (List ℕ)
  pub parts_are : parts ≡ long ∷ later
  pub too_long : file_limit < length long

-- The first of the parts, with this many lines before it, shows this format.
pub record BeginPacked (number : ℕ) (packed : PackedForm) (parts : List (List ℕ)) : Type 0 where
  pub first : List ℕ
  pub later : List (List ℕ)
  pub parts_are : parts ≡ first ∷ later
  pub shows : packed_at number first ≡ Some packed

-- ---- one batch

-- the parts that are left after this many lines: the line that has begun; a line that is too long,
-- or that shows a format; or the run was stopped
abbrev pub IsLeft : ℕ → (left : List (List ℕ)) → LineStart → Result (Option Stop) RunFault → Type 0
IsLeft number left next (Ok None) = (left ≡ next.front.items ∷ []) × (next.number ≡ number)
IsLeft number left next (Ok (Some stops.LongLine)) = BeginLong left × (next.number ≡ number)
IsLeft number left next (Ok (Some (stops.Packed packed))) = BeginPacked number packed left
IsLeft number left next (Err stop) = Unit {0}

-- The parts ended lines, whose findings were told, and others are left.
pub record Takes {W : Type 0} (name : List ℕ) (parts : List (List ℕ)) (start next : LineStart)
    (result : Result (Option Stop) RunFault) (old new : Auditor W) : Type 0 where
  pub ended : List (List ℕ)
  pub left : List (List ℕ)
  pub parts_are : onto start.front.items parts ≡ ended ++ left
  pub left_is : IsLeft (number_after start.number ended) left next result
  pub text : OnOk result (AreText start.number ended)
  pub tells : TellsLines old name start.number ended result new

-- ---- one line

-- the line whose findings were told, unless it is none
abbrev pub told_of : (line : List ℕ) → Result (Option Stop) RunFault → List (List ℕ)
told_of line (Ok None) = line ∷ []
told_of line (Ok (Some stop)) = []
told_of line (Err stop) = line ∷ []

abbrev pub IsAfterLine : (line : List ℕ) → (start next : LineStart)
    → Result (Option Stop) RunFault → Type 0
IsAfterLine line start next (Ok None) =
    (packed_at start.number line ≡ None) × ((next.front.items ≡ [])
    × (next.number ≡ next_number start.number))
IsAfterLine line start next (Ok (Some stops.LongLine)) =
    (file_limit < length line) × (next.number ≡ start.number)
IsAfterLine line start next (Ok (Some (stops.Packed packed))) =
    packed_at start.number line ≡ Some packed
IsAfterLine line start next (Err stop) = Unit {0}

-- A part was kept behind the line that has begun, or there are too many bytes, or an allocation
-- failed.
abbrev pub BeginsLine : (name part : List ℕ) → (start next : LineStart)
    → Result (Option Stop) RunFault → Type 0
BeginsLine name part start next (Ok None) =
    (next.front.items ≡ start.front.items ++ part) × (next.number ≡ start.number)
BeginsLine name part start next (Ok (Some stops.LongLine)) =
    (file_limit < length (start.front.items ++ part)) × (next.number ≡ start.number)
BeginsLine name part start next (Ok (Some (stops.Packed packed))) = ⊥
BeginsLine name part start next (Err stop) = stop ≡ run_fault_of name NoMemory

-- A part ends the line that has begun, and the finding of the line was told.
pub record EndsLine {W : Type 0} (name part : List ℕ) (start next : LineStart)
    (result : Result (Option Stop) RunFault) (old new : Auditor W) : Type 0 where
  pub after : IsAfterLine (start.front.items ++ part) start next result
  pub tells : TellsLines old name start.number (told_of (start.front.items ++ part) result) result
      new

-- ---- all batches

-- how a log ends: with its last byte; its reader failed; with a line that is too long; with a first
-- line that shows a format; after more batches than are counted; or the run was stopped
pub data LogEnd : Type 0 where
  Whole : LogEnd
  Failed : LogEnd
  Long : LogEnd
  Packed : PackedForm → LogEnd
  Endless : LogEnd
  Broken : LogEnd

abbrev pub IsBroken : {A : Type 0} → Result A RunFault → Type 0
IsBroken (Ok value) = ⊥
IsBroken (Err stop) = Unit {0}

-- the reader did not fail
abbrev pub IsRead : Result Bool RunFault → Type 0
IsRead (Ok true) = Unit {0}
IsRead (Ok false) = ⊥
IsRead (Err stop) = Unit {0}

-- the end by what came, what is left of it after this many lines, and the result
abbrev pub IsEnd : LogEnd → (now : Option (List ℕ)) → (failed : Bool) → (came : List ℕ) → ℕ
    → (left : List (List ℕ)) → Result Bool RunFault → Type 0
IsEnd Whole now failed came number left result =
    (left ≡ []) × (IsAtEnd now × ((failed ≡ false) × (result ≡ Ok true)))
IsEnd Failed now failed came number left result =
    (length left ≡ 1) × ((failed ≡ true) × (result ≡ Ok false))
IsEnd Long now failed came number left result = BeginLong left × IsRead result
IsEnd (Packed packed) now failed came number left result =
    BeginPacked number packed left × IsRead result
IsEnd Endless now failed came number left result =
    (2 ^ 64 - 1 ≤ length came) × IsRead result
IsEnd Broken now failed came number left result = IsBroken result

-- what is found at the end, after this many lines
abbrev pub end_findings : (name : List ℕ) → ℕ → LogEnd → List Placed
end_findings name number Whole = []
end_findings name number Failed = []
end_findings name number Long =
    place name (next_number number) (Lacks (reasons.Log whys.LongLine)) ∷ []
end_findings name number (Packed packed) =
    place name 0 (Lacks (reasons.Log (whys.Packed packed))) ∷ []
end_findings name number Endless = place name 0 (Lacks (reasons.File TooLong)) ∷ []
end_findings name number Broken = []

-- what is found where the rest is not read, after this many lines
abbrev pub stop_findings : (name : List ℕ) → ℕ → Stop → List Placed
stop_findings name number stops.LongLine = end_findings name number Long
stop_findings name number (stops.Packed packed) = end_findings name number (Packed packed)

-- Bytes came of a reader, and ended these lines; what is left of them says how the log ends.
pub record ReadsLog (first now : Option (List ℕ)) (failed : Bool) (result : Result Bool RunFault)
    : Type 0 where
  pub came : List ℕ
  pub comes : Consumes first now came
  pub lines : List (List ℕ)
  pub left : List (List ℕ)
  pub parts_are : parts_of came ≡ lines ++ left
  pub end : LogEnd
  pub is_end : IsEnd end now failed came (number_after 0 lines) left result
  pub text : OnOk result (AreText 0 lines)

-- the findings of a log by the outcomes of its lines, and what is found at its end
abbrev pub log_findings : (name : List ℕ) → List Outcome → ℕ → LogEnd → List Placed
log_findings name outcomes number end =
    placed_after name 0 outcomes ++ end_findings name number end

-- A log was read, and its findings were told.
pub record AuditsLog {W : Type 0} (name : List ℕ) (first now : Option (List ℕ)) (failed : Bool)
    (result : Result Bool RunFault) (old new : Auditor W) : Type 0 where
  pub reads : ReadsLog first now failed result
  pub tells : (outcomes : List Outcome) → AreOutcomes reads.lines outcomes
      → Tells old (log_findings name outcomes (number_after 0 reads.lines) reads.end) result new

-- The last line was ended after others, and the findings from it on were told: that of the line, or
-- why it is not read.
pub data EndsLog {W : Type 0} (name : List ℕ) (start : LineStart) (result : Result Bool RunFault)
    (old new : Auditor W) : Type 0 where
  whole : (next : LineStart) → EndsLine name [] start next (Ok None) old new → result ≡ Ok true
      → EndsLog name start result old new
  stopped : (stop : Stop) (next : LineStart) (mid : Auditor W)
      → EndsLine name [] start next (Ok (Some stop)) old mid
      → Tells mid (stop_findings name next.number stop) result new → IsRead result
      → EndsLog name start result old new
  broken : (stop : RunFault) (next : LineStart) → EndsLine name [] start next (Err stop) old new
      → result ≡ Err stop → EndsLog name start result old new
