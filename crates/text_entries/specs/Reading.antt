-- How reading the text of a list changes what is held.
use Rattle.std.specs.Prelude.{◌≡◌, ℕ, ◌+◌, ◌≤◌, List, [], ◌∷◌, ◌++◌, length, Option, Some, None}
use Rattle.std.specs.Prelude.{Result, Ok, Err}
use Rattle.std.specs.List.{slice_split}
use Rattle.key_text.specs.Lines.{is_newline}
use Rattle.run_faults.specs.declared.spec_cause.SpecCause.TheVariants as specs
use Rattle.krl_types.specs.Entry.{Entry}
use Rattle.krl_entries.specs.Changes.{MeansMore}
use Rattle.krl_entries.specs.Revocations.{Revocations, held}
use Rattle.text_entries.specs.AuthorityNames.{NamedKeys, with_name}
use Rattle.text_entries.specs.Lines.{beginning, fault_at, lines_from, lines_with}
use Rattle.text_entries.specs.Says.{Blank, Saying, entry_said, line_says, standing_after}
use Rattle.text_entries.specs.TextCause.{MayLackMemory, Reports}
use Rattle.text_entries.specs.declared.standing.Standing.{Standing}
use Rattle.text_entries.specs.declared.text_cause.TextCause.{TextCause}
use Rattle.text_entries.specs.declared.text_cause.TextCause.TheVariants as causes
use Rattle.text_entries.specs.declared.text_fault.TextFault.{TextFault}

-- ---- an entry

-- The entry is held, which makes at most one more interval.
abbrev pub IsHeld : Entry → (old new : Revocations) → Type 0
IsHeld entry old new = MeansMore old new (entry ∷ []) × (held new ≤ held old + 1)

-- The entry of a line was added; or its fault is reported, and nothing changed.
abbrev pub TakesEntry : {A : Type 0} → Result Entry TextCause → Result A TextCause
    → (old new : Revocations) → Type 0
TakesEntry read (Ok done) old new = (entry : Entry) × (read ≡ Ok entry) × IsHeld entry old new
TakesEntry read (Err cause) old new = Reports cause read × (new ≡ old)

-- ---- a name

-- The key of a line has the name that the line gives; or its fault is reported, and nothing
-- changed.
abbrev pub DeclaresName : {A : Type 0} → (name : List ℕ) → Result (List ℕ) TextCause
    → Result A TextCause → (old new : NamedKeys) → Type 0
DeclaresName name read (Ok done) old new =
    (key : List ℕ) × (read ≡ Ok key) × (new ≡ with_name old name key)
DeclaresName name read (Err cause) old new = Reports cause read × (new ≡ old)

-- ---- a line

abbrev pub IsAdded : Option Entry → (old new : Revocations) → Type 0
IsAdded None old new = new ≡ old
IsAdded (Some entry) old new = IsHeld entry old new

-- A line was obeyed: what it says counts, and its entry is held.
abbrev pub IsDone : Saying → (before after : Standing) → (old new : Revocations) → Type 0
IsDone saying before after old new =
    (after ≡ standing_after saying before) × IsAdded (entry_said saying) old new

-- An allocation may fail before a line is obeyed. A line that says nothing needs none.
abbrev pub LacksMemory : Result Saying TextCause → Type 0
LacksMemory (Ok Blank) = ⊥
LacksMemory says = MayLackMemory says

-- The line has the fault that is reported, or an allocation failed.
abbrev pub ReportsLine : TextCause → Result Saying TextCause → Type 0
ReportsLine (causes.Spec specs.NoMemory) says = LacksMemory says
ReportsLine cause says = says ≡ Err cause

-- The line was obeyed; or its fault is reported, and nothing changed.
abbrev pub TakesLine : {A : Type 0} → Result Saying TextCause → Result A TextCause
    → (before after : Standing) → (old new : Revocations) → Type 0
TakesLine says (Ok done) before after old new =
    (saying : Saying) × (says ≡ Ok saying) × IsDone saying before after old new
TakesLine says (Err cause) before after old new =
    ReportsLine cause says × (after ≡ before) × (new ≡ old)

-- ---- a text

-- An allocation failed at a line, before a fault of it that needs none: those before it have no
-- fault, and their entries were added.
pub record LacksMemoryAt (first : Standing) (lines : List (List ℕ)) (number : ℕ)
    (old new : Revocations) : Type 0 where
  pub before : List (List ℕ)
  pub line : List ℕ
  pub after : List (List ℕ)
  pub parts : lines ≡ before ++ line ∷ after
  pub counted : length before + 1 ≡ number
  pub faultless : (lines_from (beginning first) 1 before).fault ≡ None
  pub lacks : LacksMemory (line_says (lines_from (beginning first) 1 before).standing line)
  pub adds : MeansMore old new (lines_from (beginning first) 1 before).entries

-- The entries up to the first fault were added, and the fault is reported.
abbrev pub StopsAt : Standing → List ℕ → ℕ → TextCause → Revocations → Revocations → Type 0
StopsAt first text number (causes.Spec specs.NoMemory) old new =
    LacksMemoryAt first (slice_split is_newline text) number old new
StopsAt first text number cause old new =
    ((lines_with first text).fault ≡ Some (fault_at number cause))
    × MeansMore old new (lines_with first text).entries

-- All entries of the lines were added, no line has a fault, and this stands after them; or reading
-- stopped at a line.
abbrev pub ReadsText : {A : Type 0} → List ℕ → Result A TextFault → (first after : Standing)
    → (old new : Revocations) → Type 0
ReadsText text (Ok done) first after old new =
    ((lines_with first text).fault ≡ None)
    × (after ≡ (lines_with first text).standing)
    × MeansMore old new (lines_with first text).entries
ReadsText text (Err fault) first after old new = StopsAt first text fault.line fault.cause old new
