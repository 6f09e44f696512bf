-- Texts that are read as what they were printed from.
use Rattle.std.specs.Prelude.{◌≡◌, ℕ, List, ◌∷◌, map, All, Option, None, Ok, Err}
use Rattle.std.specs.List.{concat, flat_map}
use Rattle.ssh_wire.specs.Wire.{IsBytes}
use Rattle.krl_entries.specs.Canonical.{entries_in}
use Rattle.krl_entries.specs.Revocations.{IsOrderly, Revocations}
use Rattle.krl_format.specs.declared.header.Header.{Header}
use Rattle.krl_types.specs.Entry.{Entry}
use Rattle.list_text.specs.Facts.{Fact, ListFact, facts_of}
use Rattle.list_text.specs.Text.{fact_line}
use Rattle.text_entries.specs.AuthorityNames.{NameOfKey}
use Rattle.text_entries.specs.Lines.{lines_of}
use Rattle.text_entries.specs.Reading.{ReadsText}
use Rattle.text_entries.specs.Says.{first_standing}
use Rattle.text_entries.specs.declared.standing.Standing.{Standing}
use Rattle.text_entries.specs.declared.text_fault.TextFault.{TextFault}
use Rattle.text_laws.specs.FactLines.{HasNoZero, HasNumbers}

-- No key ID has a zero byte.
abbrev pub HasNoZeroIds : Revocations → Type 0
HasNoZeroIds r = All (λ section. All HasNoZero section.ids) r.sections

-- Everything is in order, and the authorities, key IDs, keys and hashes are bytes: so it is in
-- memory. No key ID has a zero byte.
pub record IsStored (r : Revocations) : Type 0 where
  pub orderly : IsOrderly r
  pub authorities : All (λ section. IsBytes section.authority) r.sections
  pub ids : All (λ section. All IsBytes section.ids) r.sections
  pub whole_ids : HasNoZeroIds r
  pub keys : All IsBytes r.keys
  pub sha1s : All IsBytes r.sha1s
  pub sha256s : All IsBytes r.sha256s

-- The text has no fault, and exactly these entries, in this order, on each day.
abbrev pub IsReadAs : List ℕ → List Entry → Type 0
IsReadAs text entries =
    (today : ℕ) → ((lines_of today text).fault ≡ None) × ((lines_of today text).entries ≡ entries)

-- The text is read on some day, and changes what is held from the old to the new.
abbrev pub IsReadInto : List ℕ → (old new : Revocations) → Type 0
IsReadInto text old new =
    (today : ℕ) × (after : Standing)
    × ReadsText {A = Unit {0}} text (Ok tt) (first_standing today) after old new

-- Reading the text stops with the fault, on some day.
abbrev pub StopsWith : List ℕ → TextFault → (old new : Revocations) → Type 0
StopsWith text fault old new =
    (today : ℕ) × (after : Standing)
    × ReadsText {A = Unit {0}} text (Err fault) (first_standing today) after old new

-- ---- lists that are shown

-- the name of a list, its header, which a plain list does not have, and what it names
pub record Shown : Type 0 where
  pub name : List ℕ
  pub header : Option Header
  pub contents : Revocations

pub record CanBeShown (list : Shown) : Type 0 where
  pub numbers : HasNumbers list.header
  pub stored : IsStored list.contents

abbrev pub facts_about : Shown → List Fact
facts_about list = ListFact list.name list.header ∷ facts_of list.contents

-- the texts of lists, one after the other, by the names of authorities
abbrev pub text_of_lists : NameOfKey → List Shown → List ℕ
text_of_lists names lists = concat (map (fact_line names) (flat_map facts_about lists))

abbrev pub entries_of_lists : List Shown → List Entry
entries_of_lists lists = flat_map (λ list. entries_in list.contents) lists
