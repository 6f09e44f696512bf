-- The entries of specification files, and the effect of reading one (ssh-keygen(1), KEY REVOCATION
-- LISTS).
use Rattle.std.specs.Prelude.{◌≡◌, ℕ, ◌+◌, List, [], ◌∷◌, ◌++◌, length, Option, Some, None, Result}
use Rattle.std.specs.Prelude.{Ok, Err}
use Rattle.std.specs.List.{slice_split}
use Rattle.krl_entries.specs.Revocations.{Revocations}
use Rattle.krl_types.specs.Entry.{Entry}
use Rattle.krl_entries.specs.Changes.{MeansMore}
use Rattle.krl_spec.specs.Entries.{line_entry}
use Rattle.key_text.specs.Lines.{is_newline}
use Rattle.run_faults.specs.declared.spec_cause.SpecCause.{SpecCause}
use Rattle.run_faults.specs.declared.spec_cause.SpecCause.TheVariants.{NoMemory}
use Rattle.krl_spec.specs.declared.spec_fault.SpecFault.{SpecFault}

-- the entries of lines up to the first fault, and that fault
pub record LineEntries : Type 0 where
  pub entries : List Entry
  pub fault : Option SpecFault

-- a line with this number, followed by later lines
abbrev pub before_later : ℕ → Option (Result Entry SpecCause) → LineEntries → LineEntries
before_later number None later = later
before_later number (Some (Ok entry)) later =
    record { entries = entry ∷ later.entries; fault = later.fault }
before_later number (Some (Err cause)) later =
    record { entries = []; fault = Some (record { line = number; cause = cause }) }

-- the entries of lines, of which the first has this number
abbrev pub lines_from : Option (List ℕ) → ℕ → List (List ℕ) → LineEntries
lines_from authority number [] = record { entries = []; fault = None }
lines_from authority number (line ∷ lines) =
    before_later number (line_entry authority line) (lines_from authority (number + 1) lines)

-- the entries of the lines of a file
unfoldable pub lines_of : Option (List ℕ) → List ℕ → LineEntries
lines_of authority text = lines_from authority 1 (slice_split is_newline text)

-- An allocation failed at a line: those before it have no fault, and their entries were added.
pub record LacksMemoryAt (authority : Option (List ℕ)) (lines : List (List ℕ)) (number : ℕ)
    (old new : Revocations) : Type 0 where
  pub before : List (List ℕ)
  pub line : List ℕ
  pub after : List (List ℕ)
  pub parts : lines ≡ before ++ line ∷ after
  pub counted : length before + 1 ≡ number
  pub faultless : (lines_from authority 1 before).fault ≡ None
  pub adds : MeansMore old new (lines_from authority 1 before).entries

-- The entries up to the first fault were added, and the fault is reported.
abbrev pub StopsAt : Option (List ℕ) → List ℕ → ℕ → SpecCause → Revocations → Revocations → Type 0
StopsAt authority text number NoMemory old new =
    LacksMemoryAt authority (slice_split is_newline text) number old new
StopsAt authority text number cause old new =
    ((lines_of authority text).fault ≡ Some (record { line = number; cause = cause }))
    × MeansMore old new (lines_of authority text).entries

-- All entries of the lines were added, and no line has a fault; or reading stopped at a line.
abbrev pub ReadsSpec : {A : Type 0} → Option (List ℕ) → List ℕ → Result A SpecFault
    → Revocations → Revocations → Type 0
ReadsSpec authority text (Ok done) old new =
    ((lines_of authority text).fault ≡ None) × MeansMore old new (lines_of authority text).entries
ReadsSpec authority text (Err fault) old new = StopsAt authority text fault.line fault.cause old new
