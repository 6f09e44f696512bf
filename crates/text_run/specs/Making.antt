-- Making a list of texts (krl(1), KRL MAKE).
use Rattle.std.specs.Prelude.{◌≡◌, ◌≢◌, ℕ, Bool, false, ◌+◌, ◌/◌, ◌≤◌, ◌<◌, ◌⊎◌}
use Rattle.std.specs.Prelude.{List, [], ◌∷◌, ◌++◌, codes, length, Option, Some, None, Result, Ok}
use Rattle.std.specs.Prelude.{Err}
use Rattle.ssh_wire.specs.Reading.{◌>>=◌, in_fault}
use Rattle.run_faults.specs.declared.cause.Cause.{Cause}
use Rattle.run_faults.specs.declared.cause.Cause.TheVariants as causes
use Rattle.krl_entries.specs.Changes.{MeansMore}
use Rattle.krl_entries.specs.Revocations.{Revocations, held, nothing}
use Rattle.krl_format.specs.Front.{limit}
use Rattle.krl_format.specs.declared.header.Header.{Header}
use Rattle.krl_types.specs.Entry.{Entry}
use Rattle.krl_writer.specs.KrlText.{IsKrlText}
use Rattle.list_text.specs.Counts.{counted_all, nothing_counted}
use Rattle.list_text.specs.Facts.{facts_of}
use Rattle.list_text.specs.declared.counts.Counts.{Counts}
use Rattle.text_entries.specs.AuthorityNames.{NamedKeys, key_named, name_of}
use Rattle.text_entries.specs.Lines.{LineEntries, lines_with}
use Rattle.text_entries.specs.Says.{first_standing}
use Rattle.text_entries.specs.declared.standing.Standing.{Standing}
use Rattle.text_entries.specs.declared.text_fault.TextFault.{TextFault}
use Rattle.text_run.specs.Fault.{MakeFault, line_fault, whole_fault}
use Rattle.text_run.specs.declared.make_fault.MakeCause.{MakeCause}
use Rattle.text_run.specs.declared.make_fault.MakeCause.TheVariants.{Run}

-- ---- the texts

-- the name of a text, whether it is a regular file, and its bytes or why there are none
pub record Text : Type 0 where
  pub name : List ℕ
  pub is_file : Bool
  pub content : Result (List ℕ) Cause

-- the entries that are read, and what stands then
pub record TextEntries : Type 0 where
  pub entries : List Entry
  pub standing : Standing

abbrev pub unless_fault : (name bytes : List ℕ) → LineEntries → Option TextFault
    → Result TextEntries MakeFault
unless_fault name bytes lines None =
    Ok (record { entries = lines.entries; standing = lines.standing })
unless_fault name bytes lines (Some fault) =
    Err (line_fault name bytes fault.line fault.cause)

-- what the bytes of a text with this name give behind others, or its first fault
abbrev pub bytes_from : Standing → (name bytes : List ℕ) → Result TextEntries MakeFault
bytes_from standing name bytes =
    unless_fault name bytes (lines_with standing bytes) (lines_with standing bytes).fault

abbrev pub unread : List ℕ → Cause → MakeFault
unread name cause = whole_fault name (Run cause)

unfoldable pub text_from : Standing → Text → Result TextEntries MakeFault
text_from standing text = do
  bytes ← in_fault (unread text.name) text.content
  bytes_from standing text.name bytes

-- what is read, and then what is read behind it
abbrev pub then_from : Result TextEntries MakeFault → (Standing → Result TextEntries MakeFault)
    → Result TextEntries MakeFault
then_from first later = do
  read ← first
  more ← later read.standing
  Ok (record more { entries = read.entries ++ more.entries })

-- what texts give, or the first fault
abbrev pub texts_from : Standing → List Text → Result TextEntries MakeFault
texts_from standing [] = Ok (record { entries = []; standing = standing })
texts_from standing (text ∷ texts) =
    then_from (text_from standing text) (λ after. texts_from after texts)

-- The day of a moment, given in seconds since 1970, by its number from 1970-01-01 on.
abbrev pub day_at : (seconds : ℕ) → ℕ
day_at seconds = seconds / 86_400

-- what all texts give on this day
abbrev pub texts_on : (today : ℕ) → List Text → Result TextEntries MakeFault
texts_on today texts = texts_from (first_standing today) texts

abbrev pub only_entries : Result TextEntries MakeFault → Result (List Entry) MakeFault
only_entries read = do
  given ← read
  Ok given.entries

abbrev pub only_over : Result TextEntries MakeFault → Result ℕ MakeFault
only_over read = do
  given ← read
  Ok given.standing.over

-- The entries of all texts, or the first fault. A name that a text gives to an authority is known
-- in all later ones, and in each text no authority is current at first.
abbrev pub texts_entries : (today : ℕ) → List Text → Result (List Entry) MakeFault
texts_entries today texts = only_entries (texts_on today texts)

-- how many lines of all texts had a last day that is over
abbrev pub texts_over : (today : ℕ) → List Text → Result ℕ MakeFault
texts_over today texts = only_over (texts_on today texts)

-- ---- adding them

-- An allocation failed at a text of this name: the texts before it have no fault.
pub record LacksMemoryAt (today : ℕ) (texts : List Text) (name : List ℕ) : Type 0 where
  pub before : List Text
  pub text : Text
  pub after : List Text
  pub parts : texts ≡ before ++ text ∷ after
  pub named : name ≡ text.name
  pub entries : List Entry
  pub faultless : texts_entries today before ≡ Ok entries

-- The fault is the one that reading gives. Or an allocation failed, which is the fault of a text as
-- a whole: it has a name at which that can be, and no line.
abbrev pub IsMakeFault : {A : Type 0} → (Lacks : List ℕ → Type 0) → MakeCause
    → Result A MakeFault → MakeFault → Type 0
IsMakeFault Lacks (Run causes.NoMemory) read fault =
    (fault ≡ whole_fault fault.name (Run causes.NoMemory)) × Lacks fault.name
IsMakeFault Lacks cause read fault = read ≡ Err fault

-- The entries that were read are held, and at most one more interval for each.
pub record HoldsMore (old new : Revocations) (entries : List Entry) : Type 0 where
  pub means : MeansMore old new entries
  pub held_is : held new ≤ held old + length entries

-- the entries of a text with this name
abbrev pub AddsText : {A : Type 0} → (name : List ℕ) → Result TextEntries MakeFault
    → Result A MakeFault → (after : Standing) → (old new : Revocations) → Type 0
AddsText name read (Ok done) after old new =
    (given : TextEntries) × (read ≡ Ok given) × (after ≡ given.standing)
    × HoldsMore old new given.entries
AddsText name read (Err fault) after old new =
    IsMakeFault (λ other. other ≡ name) fault.cause read fault

-- the entries of all texts, and what stands then
abbrev pub AddsTexts : (today : ℕ) → List Text → Result Standing MakeFault
    → (old new : Revocations) → Type 0
AddsTexts today texts (Ok standing) old new =
    (entries : List Entry)
    × (texts_on today texts ≡ Ok (record { entries = entries; standing = standing }))
    × HoldsMore old new entries
AddsTexts today texts (Err fault) old new =
    IsMakeFault (LacksMemoryAt today texts) fault.cause (texts_entries today texts) fault

-- ---- the names of authorities

-- The names that texts give to authorities on this day, by their keys.
abbrev pub GivesNames : (today : ℕ) → List Text → NamedKeys → Type 0
GivesNames today texts names =
    (given : TextEntries) × (texts_on today texts ≡ Ok given)
    × ((key : List ℕ) → key_named names key ≡ name_of given.standing.names key)

-- The texts have this fault first, or an allocation failed at one of them.
abbrev pub IsUnread : (today : ℕ) → List Text → MakeFault → Type 0
IsUnread today texts fault =
    IsMakeFault (LacksMemoryAt today texts) fault.cause (texts_entries today texts) fault

-- The same, or there was no memory for the names.
abbrev pub IsUnnamed : (today : ℕ) → List Text → MakeFault → Type 0
IsUnnamed today texts fault =
    (fault ≡ whole_fault (codes "memory") (Run causes.NoMemory)) ⊎ IsUnread today texts fault

-- ---- the list

-- the list that is made, apart from what it names
pub record Wanted : Type 0 where
  pub name : List ℕ
  pub header : Header
  pub allow_empty : Bool

-- how many authorities, serial numbers, key IDs, keys and hashes are held
abbrev pub counts_of : Revocations → Counts
counts_of contents = counted_all nothing_counted (facts_of contents)

-- The texts have no fault, and the list names exactly their entries on its date, beside what was
-- held. It names something, unless it may be empty.
pub record Makes (wanted : Wanted) (held : Revocations) (texts : List Text) (bytes : List ℕ)
    (contents : Revocations) : Type 0 where
  pub entries : List Entry
  pub read : texts_entries (day_at wanted.header.date) texts ≡ Ok entries
  pub some : wanted.allow_empty ≡ false → contents ≢ nothing
  pub adds : HoldsMore held contents entries
  pub written : IsKrlText wanted.header contents bytes
  pub within : length bytes ≤ limit

-- The bytes are those of the wanted list, with what is held. Otherwise an allocation failed, or the
-- list would be too long to be read.
abbrev pub IsWritten : {X : Type 0} → (X → List ℕ) → Wanted → Revocations → Result X MakeFault
    → Type 0
IsWritten view wanted contents (Ok made) =
    IsKrlText wanted.header contents (view made) × (length (view made) ≤ limit)
IsWritten view wanted contents (Err fault) =
    (fault ≡ whole_fault wanted.name (Run causes.NoMemory))
    ⊎ ((fault ≡ whole_fault wanted.name (Run causes.TextTooLong))
    × ((bytes : List ℕ) → IsKrlText wanted.header contents bytes → limit < length bytes))
