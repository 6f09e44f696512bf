-- The visits of an audit, one after another, and what it prints and counts of each.
use Rattle.std.specs.Prelude.{◌≡◌, ℕ, ◌+◌, ◌-◌, ◌^◌, ◌<◌, ◌||◌, nat_lt, min, zero, suc}
use Rattle.std.specs.Prelude.{if◌then◌else◌, is_ok, is_some, Bool, true, false, List}
use Rattle.std.specs.Prelude.{[], ◌∷◌, ◌++◌, Option, Some, None, Result, Ok, Err, ◌⊎◌}
use Rattle.std.specs.BTreeSet.{contains, insert_key}
use Rattle.std.specs.Cmp.Lexicographic.{slice_cmp}
use Rattle.std.specs.List.{flat_map}
use Rattle.std.specs.Ordering.{nat_cmp, ordering_then}
use Rattle.std.specs.declared.cmp.Ordering.{Ordering}
use Rattle.std.specs.Result.{result_err}
use Rattle.run_faults.specs.RunFault.{output_run_fault}
use Rattle.run_faults.specs.declared.cause.Cause.{Cause}
use Rattle.run_faults.specs.declared.cause.Cause.TheVariants.{Output}
use Rattle.run_output.specs.Carries.{IsLost}
use Rattle.run_output.specs.Printer.{HasSaid, Printer}
use Rattle.run_output.specs.Run.{Item}
use Rattle.krl_types.specs.Subject.{Subject}
use Rattle.audit_text.specs.Answer.{Answer}
use Rattle.krl_audit.specs.Audit.{FileName, JudgesAs, file_items, file_kinds, own_name, said_if}
use Rattle.krl_audit.specs.Counts.{all_counted, one_more}
use Rattle.audit_text.specs.Place.{file_place, label_now}
use Rattle.audit_text.specs.Same.{same_said}
use Rattle.krl_audit.specs.declared.counts.Counts.{Counts}
use Rattle.krl_audit.specs.declared.done.FileCounts.{FileCounts}
use Rattle.krl_audit.specs.declared.judge.Judge.{Judge}
use Rattle.krl_audit.specs.declared.judge.Shown.{Shown}
use Rattle.audit_lines.specs.declared.why.Refusal.{Refusal}
use Rattle.audit_run.specs.declared.files.Files.{Files}
use Rattle.audit_run.specs.declared.files.Since.{Since}
use Rattle.audit_run.specs.declared.files.Skip.{Skip}
use Rattle.audit_run.specs.declared.files.Skip.TheVariants as skips
use Rattle.audit_run.specs.declared.stop.Stop.{Stop}
use Rattle.audit_run.specs.declared.stop.Stop.TheVariants as stops

-- A visit of an audit.
pub data Visit : Type 0 where
  -- a file is audited, by its bytes or why there are none; a regular one that was opened has a key
  Audited : (key : Option (List ℕ)) (name : FileName) → Result (List ℕ) Refusal → Visit
  -- a name leads to a file that was audited before: it is printed, or counted alone
  Same : (told : Bool) (key name : List ℕ) → Visit
  -- this many names of a directory are passed over for this reason
  Skipped : Skip → ℕ → Visit

abbrev pub refused : List ℕ → Refusal → List Visit
refused name refusal = Audited None (own_name name) (Err refusal) ∷ []

-- ---- what is printed

abbrev pub same_items : Shown → (told : Bool) → List ℕ → List Item
same_items shown true name =
    said_if shown.revoked name (same_said shown.format (file_place (label_now shown.label) name))
    ∷ []
same_items shown false name = []

abbrev pub visit_items : (Subject → Answer) → Shown → Visit → List Item
visit_items answers shown (Audited key name content) = file_items answers shown name content
visit_items answers shown (Same told key name) = same_items shown told name
visit_items answers shown (Skipped why count) = []

unfoldable pub visits_items : (Subject → Answer) → Shown → List Visit → List Item
visits_items answers shown visits = flat_map (visit_items answers shown) visits

-- ---- what is counted

-- The counts of lines and of files, and the keys of the files that were audited.
pub record Tally : Type 0 where
  pub counts : Counts
  pub files : Files

-- no file
abbrev pub no_files : Files
no_files = record {
  counts = record { audited = 0; same = 0; skipped = 0; excluded = 0; elsewhere = 0 };
  revoked = 0;
  seen = record { keys = [] };
  names = record { keys = [] };
}

abbrev pub with_key : Option (List ℕ) → Files → Files
with_key None files = files
with_key (Some key) files =
    record files { seen = record { keys = insert_key (slice_cmp nat_cmp) files.seen.keys key } }

-- with a file that was audited, in which a key is revoked or not
abbrev pub with_audited : Bool → Files → Files
with_audited revoked files = record files {
  counts = record files.counts { audited = one_more files.counts.audited true };
  revoked = one_more files.revoked revoked;
}

-- ---- other names of a file

-- how many other names of one file are printed
abbrev pub most_names : ℕ
most_names = 20

-- other names, by the file's key and then by their numbers
abbrev pub name_cmp : List ℕ × ℕ → List ℕ × ℕ → Ordering
name_cmp one other = ordering_then (slice_cmp nat_cmp one.0 other.0) (nat_cmp one.1 other.1)

-- the first number from this one, of this many, that no other name of the file with this key has
abbrev pub free_from : Files → List ℕ → (number left : ℕ) → ℕ
free_from files key number zero = number
free_from files key number (suc left) =
    if contains name_cmp files.names (key, number) then free_from files key (number + 1) left
    else number

-- how many other names of the file with this key were met, up to as many as are printed
abbrev pub names_of : Files → List ℕ → ℕ
names_of files key = free_from files key 0 most_names

abbrev pub is_told : Files → List ℕ → Bool
is_told files key = nat_lt (names_of files key) most_names

abbrev pub with_same : List ℕ → Files → Files
with_same key files = record files {
  counts = record files.counts { same = one_more files.counts.same true };
  names = record { keys = insert_key name_cmp files.names.keys (key, names_of files key) };
}

-- a count with this many more, which stops at its maximum
abbrev pub more_by : (old count : ℕ) → ℕ
more_by old count = min (old + count) (2 ^ 64 - 1)

abbrev pub skipped_more : Skip → ℕ → FileCounts → FileCounts
skipped_more skips.ByName count counts =
    record counts { skipped = more_by counts.skipped count }
skipped_more skips.Excluded count counts =
    record counts { excluded = more_by counts.excluded count }
skipped_more skips.Elsewhere count counts =
    record counts { elsewhere = more_by counts.elsewhere count }

abbrev pub with_skipped : Skip → ℕ → Files → Files
with_skipped why count files =
    record files { counts = skipped_more why count files.counts }

-- no file was audited
abbrev pub nothing_tallied : Tally
nothing_tallied =
    record { counts = record { keys = 0; revoked = 0; unread = 0 }; files = no_files }

abbrev pub tally_with : Option (List ℕ) → Tally → Counts → Tally
tally_with key tally counts = record {
  counts = counts;
  files = with_audited (nat_lt tally.counts.revoked counts.revoked) (with_key key tally.files);
}

abbrev pub tallied : (Subject → Answer) → Tally → Visit → Tally
tallied answers tally (Audited key name content) =
    tally_with key tally (all_counted tally.counts (file_kinds answers name.read_as content))
tallied answers tally (Same told key name) =
    record { counts = tally.counts; files = with_same key tally.files }
tallied answers tally (Skipped why count) =
    record { counts = tally.counts; files = with_skipped why count tally.files }

abbrev pub all_tallied : (Subject → Answer) → Tally → List Visit → Tally
all_tallied answers tally [] = tally
all_tallied answers tally (visit ∷ visits) =
    all_tallied answers (tallied answers tally visit) visits

-- ---- a file is audited once

abbrev pub is_seen : Files → List ℕ → Bool
is_seen files key = contains (slice_cmp nat_cmp) files.seen key

-- A file with a key is audited exactly if none with this key was. Its first other names are
-- printed.
abbrev pub IsTimely : Tally → Visit → Type 0
IsTimely tally (Audited None name content) = Unit {0}
IsTimely tally (Audited (Some key) name content) = is_seen tally.files key ≡ false
IsTimely tally (Same told key name) =
    (is_seen tally.files key ≡ true) × (told ≡ is_told tally.files key)
IsTimely tally (Skipped why count) = Unit {0}

abbrev pub AreTimely : (Subject → Answer) → Tally → List Visit → Type 0
AreTimely answers tally [] = Unit {0}
AreTimely answers tally (visit ∷ visits) =
    IsTimely tally visit × AreTimely answers (tallied answers tally visit) visits

-- ---- an audit of which no finding is asked for

-- a key is revoked in what is audited
abbrev pub reveals : (Subject → Answer) → Tally → Visit → Bool
reveals answers tally visit =
    nat_lt tally.counts.revoked (tallied answers tally visit).counts.revoked

-- No key is revoked in what was audited, or only in the last file of an audit that stopped.
abbrev pub AreQuiet : (Subject → Answer) → (stopped : Bool) → Tally → List Visit → Type 0
AreQuiet answers stopped tally [] = Unit {0}
AreQuiet answers false tally (visit ∷ visits) =
    (reveals answers tally visit ≡ false)
    × AreQuiet answers false (tallied answers tally visit) visits
AreQuiet answers true tally (visit ∷ visits) =
    ((reveals answers tally visit ≡ false)
    × AreQuiet answers true (tallied answers tally visit) visits)
    ⊎ (visits ≡ [])

-- ---- how far an audit is

-- The list and which findings are printed, the printer, the tally, and what was met since a
-- directory that is named was entered.
pub record State : Type 0 where
  pub judge : Judge
  pub printer : Printer
  pub tally : Tally
  pub since : Since

-- nothing was met yet
abbrev pub at_start : Judge → Printer → State
at_start judge printer = record {
  judge = judge;
  printer = printer;
  tally = nothing_tallied;
  since = record { gave = false; passed = false };
}

-- All of the first items were printed.
pub record IsFront (before : Option (List ℕ)) (items : List Item) (now : Printer) : Type 0 where
  pub said : List Item
  pub later : List Item
  pub parts : items ≡ said ++ later
  pub has_said : HasSaid before said now

-- the reason that an audit stops, by the cause that a file gives
abbrev pub stop_for : Cause → Stop
stop_for (Output count) = stops.Lost count
stop_for cause = stops.NoMemory

-- An audit was stopped: after all of these items, as a key is revoked and no finding is asked for;
-- or within them.
abbrev pub IsStopped : Option (List ℕ) → List Item → Stop → State → Type 0
IsStopped before items stops.Revoked now =
    HasSaid before items now.printer
    × ((now.judge.shown.revoked ≡ false) × (0 < now.tally.counts.revoked))
IsStopped before items stops.NoMemory now = IsFront before items now.printer
IsStopped before items (stops.Lost count) now =
    IsLost before items count (output_run_fault count) now.printer

-- All of these items were printed, or the audit was stopped.
abbrev pub Says : Option (List ℕ) → List Item → Option Stop → State → Type 0
Says before items None now = HasSaid before items now.printer
Says before items (Some stop) now = IsStopped before items stop now

abbrev pub IsTallied : (Subject → Answer) → List Visit → Option Stop → Tally → Tally → Type 0
IsTallied answers visits None old new = new ≡ all_tallied answers old visits
IsTallied answers visits (Some stops.Revoked) old new = new ≡ all_tallied answers old visits
IsTallied answers visits (Some stops.NoMemory) old new = Unit {0}
IsTallied answers visits (Some (stops.Lost count)) old new = Unit {0}

-- This was met after whatever was met before: it was printed and counted, or the audit was stopped
-- within it. Each file is audited once. Where no finding is asked for, the first file with a
-- revoked key stops the audit.
pub record Audits (answers : Subject → Answer) (visits : List Visit) (stop : Option Stop)
    (old new : State) : Type 0 where
  pub says : (before : Option (List ℕ)) (said : List Item) → HasSaid before said old.printer
      → Says before (said ++ visits_items answers old.judge.shown visits) stop new
  pub tallies : IsTallied answers visits stop old.tally new.tally
  pub timely : AreTimely answers old.tally visits
  pub quiet : old.judge.shown.revoked ≡ false
      → AreQuiet answers (is_some stop) old.tally visits
  pub writer : new.printer.writer ≡ old.printer.writer

-- An audit by a list is one by the answers that it and the texts give.
pub record AuditsBy (visits : List Visit) (stop : Option Stop) (old new : State) : Type 0 where
  pub judge : new.judge ≡ old.judge
  pub audits : (answers : Subject → Answer) → JudgesAs old.judge answers
      → Audits answers visits stop old new

-- ---- since a directory that is named was entered

abbrev pub gives_one : Visit → Bool
gives_one (Audited key name content) = true
gives_one (Same told key name) = true
gives_one (Skipped why count) = false

-- some file is audited, or was before
abbrev pub gives : List Visit → Bool
gives [] = false
gives (visit ∷ visits) = gives_one visit || gives visits

abbrev pub passes_one : Visit → Bool
passes_one (Audited key name content) = false
passes_one (Same told key name) = false
passes_one (Skipped why count) = nat_lt 0 count

-- some name is passed over
abbrev pub passes : List Visit → Bool
passes [] = false
passes (visit ∷ visits) = passes_one visit || passes visits

abbrev pub IsSince : List Visit → Option Stop → Since → Since → Type 0
IsSince visits None old new =
    (new.gave ≡ old.gave || gives visits) × (new.passed ≡ old.passed || passes visits)
IsSince visits (Some stop) old new = Unit {0}

-- An audit by a list, and what was met since a directory that is named was entered.
pub record Meets (visits : List Visit) (stop : Option Stop) (old new : State) : Type 0 where
  pub audits : AuditsBy visits stop old new
  pub since : IsSince visits stop old.since new.since

-- ---- what holds of a part of an audit

-- It was done, or had been begun at most when an audit stopped.
abbrev pub Begun : {A : Type 0} → Result A Stop → (A → List Visit → Type 0) → List Visit → Type 0
Begun (Ok value) Is visits = Is value visits
Begun {A} (Err stop) Is visits = ((value : A) × Is value visits) ⊎ (visits ≡ [])

-- Something that is so was met.
pub record Goes {A : Type 0} (result : Result A Stop) (Is : A → List Visit → Type 0)
    (old new : State) : Type 0 where
  pub visits : List Visit
  pub is : Begun result Is visits
  pub meets : Meets visits (result_err result) old new

-- Something that is so, whole or not, was audited.
pub record Went {A : Type 0} (Is : (whole : Bool) → List Visit → Type 0) (result : Result A Stop)
    (old new : State) : Type 0 where
  pub visits : List Visit
  pub is : Is (is_ok result) visits
  pub audits : AuditsBy visits (result_err result) old new

-- all was audited; otherwise an audit was stopped, or came to the end of what can be read
abbrev pub is_whole : Result Bool Stop → Bool
is_whole (Ok whole) = whole
is_whole (Err stop) = false

-- Something that is so by this result was audited.
pub record Took (Is : Result Bool Stop → List Visit → Type 0) (result : Result Bool Stop)
    (old new : State) : Type 0 where
  pub visits : List Visit
  pub is : Is result visits
  pub audits : AuditsBy visits (result_err result) old new
