-- Places whose fields name nothing, after which no byte of a bitmap comes.
use Rattle.std.proofs.Common.{[], ◌-◌, ◌++◌, ◌≡◌, ◌⊎◌, append-nil, eqb, inl, inr, List, ltb, None, Ok, refl, subst, suc, sym, zero, ℕ}
use Rattle.serial_set.specs.BitRuns.{BitRuns}
use Rattle.ssh_wire.proofs.Steps.{passed_ok}
use Rattle.ssh_wire.specs.Wire.{number_of}
use Rattle.krl_types.specs.Entry.{Entry}
use Rattle.krl_types.specs.declared.krl_fault.KrlFault.TheVariants as faults
use Rattle.krl_format.specs.Place.{authority_after, expected, names}
use Rattle.krl_types.specs.Item.{item_size}
use Rattle.krl_format.specs.Section.{content_of, next_item, next_serial, next_subsection, section_row, subsection_of, subsection_row}
use Rattle.krl_format.specs.declared.place.Place.{Place}
use Rattle.krl_format.specs.declared.place.Place.TheVariants as places
use Rattle.krl_types.specs.declared.item_kind.ItemKind.{ItemKind}
use Rattle.krl_types.specs.declared.item_kind.ItemKind.TheVariants as kinds
use Rattle.krl_format.specs.declared.section.Section.{Section}
use Rattle.krl_format.specs.declared.section.Section.TheVariants as section_kinds
use Rattle.krl_format.specs.declared.section.Subsection.{Subsection}
use Rattle.krl_format.specs.declared.section.Subsection.TheVariants as subsection_kinds
use Rattle.krl_format.proofs.Judgements.{held_back, length_next, same_place}
use Rattle.krl_core.specs.FieldStore.{FieldStore, InStep, StoresEntries, StoresField, stored_header_after}

abbrev NoByte : Place → Type 0
NoByte (places.Byte offset size left after) = ⊥
NoByte _ = Unit {0}

-- no value of a part, and no field of a table
abbrev pub IsQuiet : Place → Type 0
IsQuiet (places.SectionLength section) = Unit {0}
IsQuiet (places.SubsectionType left) = Unit {0}
IsQuiet (places.SubsectionLength part left) = Unit {0}
IsQuiet (places.ItemLength kind left after) = Unit {0}
IsQuiet (places.RangeMin after) = Unit {0}
IsQuiet (places.Offset left after) = Unit {0}
IsQuiet _ = ⊥

pub is_quiet : (place : Place) → ((section : Section) × (place ≡ places.SectionLength section))
    ⊎ (((left : ℕ) × (place ≡ places.SubsectionType left))
    ⊎ (((part : Subsection) × (left : ℕ) × (place ≡ places.SubsectionLength part left))
    ⊎ (((kind : ItemKind) × (left : ℕ) × (after : ℕ) × (place ≡ places.ItemLength kind left after))
    ⊎ (((after : ℕ) × (place ≡ places.RangeMin after))
    ⊎ ((left : ℕ) × (after : ℕ) × (place ≡ places.Offset left after)))))) → IsQuiet place
is_quiet place (inl (section, is)) = subst IsQuiet (sym is) tt
is_quiet place (inr (inl (left, is))) = subst IsQuiet (sym is) tt
is_quiet place (inr (inr (inl (part, left, is)))) = subst IsQuiet (sym is) tt
is_quiet place (inr (inr (inr (inl (kind, left, after, is))))) = subst IsQuiet (sym is) tt
is_quiet place (inr (inr (inr (inr (inl (after, is)))))) = subst IsQuiet (sym is) tt
is_quiet place (inr (inr (inr (inr (inr (left, after, is)))))) = subst IsQuiet (sym is) tt

-- ---- the next place

at_subsection : (left : ℕ) → NoByte (next_subsection left)
at_subsection zero = tt
at_subsection (suc left) = tt

at_item : (kind : ItemKind) (left after : ℕ) → NoByte (next_item kind left after)
at_item kind zero after = at_subsection after
at_item kind (suc left) after = tt

at_serial : (left after : ℕ) → NoByte (next_serial left after)
at_serial zero after = at_subsection after
at_serial (suc left) after = tt

in_section : (section : Section) (size : ℕ) → NoByte ((section_row section).first size 0)
in_section section_kinds.Certificates size = tt
in_section section_kinds.Keys size = at_item kinds.Key size 0
in_section section_kinds.Sha1s size = at_item kinds.Sha1 size 0
in_section section_kinds.Sha256s size = at_item kinds.Sha256 size 0
in_section section_kinds.Extension size = tt

in_subsection : (part : Subsection) (size after : ℕ) → NoByte ((subsection_row part).first size after)
in_subsection subsection_kinds.Serials size after = at_serial size after
in_subsection subsection_kinds.Range size after = tt
in_subsection subsection_kinds.Bitmap size after = tt
in_subsection subsection_kinds.Ids size after = at_item kinds.Id size after
in_subsection subsection_kinds.Extension size after = tt

no_byte : (place next : Place) (field : List ℕ) → IsQuiet place → (expected place).judged field ≡ Ok next → NoByte next
no_byte (places.SectionLength section) next field quiet judged =
    let n = number_of field in
    let row = section_row section in
    let w = passed_ok (row.may_have n) faults.Length (row.first n 0) next judged in
    subst NoByte w.1 (in_section section n)
no_byte (places.SubsectionType left) next field quiet judged =
    let (part, is, at) = length_next faults.UnknownCertSection (λ (part : Subsection). places.SubsectionLength part (left - 1)) (subsection_of (number_of field)) next judged in
    subst NoByte at tt
no_byte (places.SubsectionLength part left) next field quiet judged =
    let n = number_of field in
    let row = subsection_row part in
    let held = held_back (ltb (left - 4) n) faults.Length (content_of row n (left - 4 - n)) next judged in
    let w = passed_ok (row.may_have n) faults.Length (row.first n (left - 4 - n)) next held.1 in
    subst NoByte w.1 (in_subsection part n (left - 4 - n))
no_byte (places.ItemLength kind left after) next field quiet judged =
    let n = number_of field in
    let held = held_back (ltb (left - 4) n) faults.Length _ next judged in
    let w = passed_ok (eqb n (item_size kind n)) faults.HashLength (places.Item kind n (left - 4 - n) after) next held.1 in
    subst NoByte w.1 tt
no_byte (places.RangeMin after) next field quiet judged =
    subst NoByte (same_place (places.RangeMax (number_of field) after) next judged) tt
no_byte (places.Offset left after) next field quiet judged =
    subst NoByte (same_place (places.BitmapSize (number_of field) (left - 8) after) next judged) tt
no_byte _ next field quiet judged = absurd quiet

stays_in_step : (next : Place) (bitmap : BitRuns) → NoByte next → bitmap.pending ≡ None → InStep next bitmap
stays_in_step (places.Byte offset size left after) bitmap other none = absurd other
stays_in_step _ bitmap other none = none

-- ---- nothing is stored

stores_none : (place next : Place) (field : List ℕ) (stored : FieldStore) → names place stored.authority field ≡ [] → stored.authority ≡ authority_after place stored.authority field
    → stored.header ≡ stored_header_after stored.scope place stored.header field → IsQuiet place → (expected place).judged field ≡ Ok next → stored.bitmap.pending ≡ None
    → StoresField place field next stored stored
stores_none place next field stored none authority header quiet judged closed = record {
  stores = λ entries has. subst (λ (more : List Entry). StoresEntries stored (entries ++ more)) (sym none) (subst (StoresEntries stored) (sym (append-nil entries)) has);
  authority_is = authority;
  header_is = header;
  in_step = stays_in_step next stored.bitmap (no_byte place next field quiet judged) closed;
  scope_is = refl;
}

pub stores_nothing : (place next : Place) (field : List ℕ) (stored : FieldStore) → IsQuiet place → (expected place).judged field ≡ Ok next → InStep place stored.bitmap → StoresField place field next stored stored
stores_nothing (places.SectionLength section) next field stored quiet judged step = stores_none (places.SectionLength section) next field stored refl refl refl quiet judged step
stores_nothing (places.SubsectionType left) next field stored quiet judged step = stores_none (places.SubsectionType left) next field stored refl refl refl quiet judged step
stores_nothing (places.SubsectionLength part left) next field stored quiet judged step = stores_none (places.SubsectionLength part left) next field stored refl refl refl quiet judged step
stores_nothing (places.ItemLength kind left after) next field stored quiet judged step = stores_none (places.ItemLength kind left after) next field stored refl refl refl quiet judged step
stores_nothing (places.RangeMin after) next field stored quiet judged step = stores_none (places.RangeMin after) next field stored refl refl refl quiet judged step
stores_nothing (places.Offset left after) next field stored quiet judged step = stores_none (places.Offset left after) next field stored refl refl refl quiet judged step
stores_nothing _ next field stored quiet judged step = absurd quiet
