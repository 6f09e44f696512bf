-- Text that is appended to a list, within the limit.
use Rattle.std.specs.Prelude.{◌≡◌, ℕ, ◌<◌, ◌≤◌, Bool, true, false, List, ◌++◌, length, take}
use Rattle.std.specs.Prelude.{Option, Result, Ok, Err, ⊤}
use Rattle.std.specs.Io.KnownBytes.{Appends}
use Rattle.krl_format.specs.Front.{limit}
use Rattle.krl_writer.specs.declared.text.WriteFault.{WriteFault}
use Rattle.krl_writer.specs.declared.text.WriteFault.TheVariants.{Write}
use Rattle.krl_writer.specs.declared.text.WriteFault.TheVariants.{NoMemory as NoMemory'}
use Rattle.krl_writer.specs.declared.text.WriteFault.TheVariants.{TooLong as TooLong'}
use Rattle.krl_writer.specs.declared.text_fault.TextFault.{TextFault}
use Rattle.krl_writer.specs.declared.text_fault.TextFault.TheVariants.{NoMemory, TooLong}
use Rattle.krl_plan.specs.declared.group.Group.{Group}
use Rattle.krl_format.specs.declared.header.Header.{Header}
use Rattle.krl_entries.specs.Revocations.{Revocations, Section}
use Rattle.krl_writer.specs.KrlText.{EachPlan, IsKrlText, authorities_text, authority_text}
use Rattle.krl_plan.specs.Plan.{IsLeastPlan}

abbrev pub text_fault_number : TextFault → ℕ
text_fault_number NoMemory = 1
text_fault_number TooLong = 2

-- the meaning of the fault for the whole text
abbrev pub Refuses : TextFault → List ℕ → Type 0
Refuses NoMemory text = ⊤
Refuses TooLong text = limit < length text

-- The text was appended and the whole is within the limit, or it would exceed the limit.
abbrev pub AddsAtMost : {A : Type 0} → Result A TextFault → List ℕ → List ℕ → List ℕ → Type 0
AddsAtMost (Ok done) old new text = (new ≡ old ++ text) × (length new ≤ limit)
AddsAtMost (Err fault) old new text = Refuses fault (old ++ text)

-- The section of an authority was appended by the least plan of its runs, and the whole is within
-- the limit, or it would exceed the limit.
abbrev pub AddsAuthority : {A : Type 0} → Result A TextFault → List ℕ → List ℕ → Section → Type 0
AddsAuthority (Ok done) old new listed =
    (plan : List Group) × (IsLeastPlan listed.spans plan
    × ((new ≡ old ++ authority_text plan listed) × (length new ≤ limit)))
AddsAuthority (Err fault) old new listed =
    (plan : List Group) → IsLeastPlan listed.spans plan
    → Refuses fault (old ++ authority_text plan listed)

-- The sections of several authorities were appended by least plans, and the whole is within the
-- limit, or it would exceed the limit.
abbrev pub AddsAuthorities : {A : Type 0}
    → Result A TextFault → List ℕ → List ℕ → List Section → Type 0
AddsAuthorities (Ok done) old new listed =
    (plans : List (List Group)) × (EachPlan IsLeastPlan plans listed
    × ((new ≡ old ++ authorities_text plans listed) × (length new ≤ limit)))
AddsAuthorities (Err fault) old new listed =
    (plans : List (List Group)) → EachPlan IsLeastPlan plans listed
    → Refuses fault (old ++ authorities_text plans listed)

-- the text is the list to be written, and within the limit
abbrev pub IsTextInLimit : Header → Revocations → List ℕ → Type 0
IsTextInLimit header r text = IsKrlText header r text × (length text ≤ limit)

-- The bytes are those of the list to be written, and within the limit, or the list is too long.
abbrev pub IsWritten : {A : Type 0} → (A → List ℕ) → Result A TextFault → Header → Revocations
    → Type 0
IsWritten bytes (Ok made) header r = IsTextInLimit header r (bytes made)
IsWritten bytes (Err NoMemory) header r = ⊤
IsWritten bytes (Err TooLong) header r =
    (text : List ℕ) → IsKrlText header r text → limit < length text

abbrev pub write_fault_number : WriteFault → ℕ
write_fault_number (Write count) = 1
write_fault_number NoMemory' = 2
write_fault_number TooLong' = 3

-- The list is within the limit and was written; if the writer failed, its first bytes were, and no
-- others. Or the list has no text, and nothing was written. The writer has failed exactly if the
-- fault is `Write`.
abbrev pub Writes : {A : Type 0} → Result A WriteFault → Header → Revocations
    → Option (List ℕ) → Option (List ℕ) → Bool → Type 0
Writes (Ok done) header r old new failed =
    (text : List ℕ) × (IsTextInLimit header r text × (Appends old new text × (failed ≡ false)))
Writes (Err (Write count)) header r old new failed =
    (text : List ℕ) × (IsTextInLimit header r text × (Appends old new (take count text)
    × ((count < length text) × (failed ≡ true))))
Writes (Err NoMemory') header r old new failed = (new ≡ old) × (failed ≡ false)
Writes (Err TooLong') header r old new failed =
    ((text : List ℕ) → IsKrlText header r text → limit < length text)
    × ((new ≡ old) × (failed ≡ false))
