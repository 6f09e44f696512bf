-- The sections of a list, and the subsections of a section of certificates: a row for each
-- (PROTOCOL.krl).
use Rattle.std.specs.Prelude.{ℕ, zero, suc, ◌%◌, ◌==◌, if◌then◌else◌, Bool, true, false}
use Rattle.std.specs.Prelude.{List, [], ◌∷◌, Option, Some, None, Result, Ok, Err}
use Rattle.krl_types.specs.declared.krl_fault.KrlFault.{KrlFault}
use Rattle.krl_types.specs.declared.krl_fault.KrlFault.TheVariants as faults
use Rattle.krl_format.specs.declared.place.Place.{Place}
use Rattle.krl_format.specs.declared.place.Place.TheVariants as places
use Rattle.krl_format.specs.declared.place.field.Field.TheVariants as fields
use Rattle.krl_types.specs.declared.item_kind.ItemKind.{ItemKind}
use Rattle.krl_types.specs.declared.item_kind.ItemKind.TheVariants as kinds
use Rattle.krl_format.specs.declared.section.Section.{Section}
use Rattle.krl_format.specs.declared.section.Section.TheVariants as section_kinds
use Rattle.krl_format.specs.declared.section.Subsection.{Subsection}
use Rattle.krl_format.specs.declared.section.Subsection.TheVariants as subsection_kinds

abbrev pub judge : Bool → KrlFault → Place → Result Place KrlFault
judge good fault next = if good then Ok next else Err fault

-- ---- the next place, if a subsection may be at its end

-- the next subsection, or the end of the section
abbrev pub next_subsection : ℕ → Place
next_subsection zero = places.SectionType false
next_subsection (suc room_before) = places.SubsectionType (suc room_before)

abbrev pub next_item : ItemKind → (room_before room_after : ℕ) → Place
next_item kind zero room_after = next_subsection room_after
next_item kind (suc room_before) room_after = places.ItemLength kind (suc room_before) room_after

abbrev pub next_serial : (room_before room_after : ℕ) → Place
next_serial zero room_after = next_subsection room_after
next_serial (suc room_before) room_after = places.Serial (suc room_before) room_after

-- ---- the rows

-- A row: the type byte, the lengths that the content may have, and the first place in the content.
-- That place depends on the length, and on the bytes of a section of certificates that are left
-- after a subsection.
pub record SectionRow : Type 0 where
  pub type_byte : ℕ
  pub may_have : ℕ → Bool
  pub first : (size room_after : ℕ) → Place

abbrev row : ℕ → (ℕ → Bool) → ((size room_after : ℕ) → Place) → SectionRow
row type_byte may_have first =
    record { type_byte = type_byte; may_have = may_have; first = first }

abbrev any_length : ℕ → Bool
any_length size = true

-- the sections that have a length
abbrev pub section_row : Section → SectionRow
section_row section_kinds.Certificates =
    row 1 any_length (λ size room_after. places.Field fields.Authority size room_after)
section_row section_kinds.Keys =
    row 2 any_length (λ size room_after. next_item kinds.Key size room_after)
section_row section_kinds.Sha1s =
    row 3 any_length (λ size room_after. next_item kinds.Sha1 size room_after)
section_row section_kinds.Sha256s =
    row 5 any_length (λ size room_after. next_item kinds.Sha256 size room_after)
section_row section_kinds.Extension =
    row 255 any_length (λ size room_after. places.Field fields.ExtensionName size room_after)

-- a signature has no length
abbrev pub signature_type : ℕ
signature_type = 4

-- the subsections of a section of certificates
abbrev pub subsection_row : Subsection → SectionRow
subsection_row subsection_kinds.Serials =
    row 0x20 (λ size. size % 8 == 0) (λ size room_after. next_serial size room_after)
subsection_row subsection_kinds.Range =
    row 0x21 (λ size. size == 16) (λ size room_after. places.RangeMin room_after)
subsection_row subsection_kinds.Bitmap =
    row 0x22 any_length (λ size room_after. places.Offset size room_after)
subsection_row subsection_kinds.Ids =
    row 0x23 any_length (λ size room_after. next_item kinds.Id size room_after)
subsection_row subsection_kinds.Extension =
    row 0x39 any_length (λ size room_after. places.Field fields.ExtensionName size room_after)

-- the first place in a content of this length, or why the length is refused
abbrev pub content_of : SectionRow → (size room_after : ℕ) → Result Place KrlFault
content_of row size room_after = judge (row.may_have size) faults.Length (row.first size room_after)

-- ---- the part of a type byte

abbrev pub of_type : {X : Type 0} → (X → SectionRow) → List X → ℕ → Option X
of_type row_of [] type_byte = None
of_type row_of (part ∷ parts) type_byte =
    if type_byte == (row_of part).type_byte then Some part else of_type row_of parts type_byte

abbrev pub all_sections : List Section
all_sections =
    section_kinds.Certificates ∷ section_kinds.Keys ∷ section_kinds.Sha1s ∷ section_kinds.Sha256s
    ∷ section_kinds.Extension ∷ []

abbrev pub all_subsections : List Subsection
all_subsections =
    subsection_kinds.Serials ∷ subsection_kinds.Range ∷ subsection_kinds.Bitmap
    ∷ subsection_kinds.Ids ∷ subsection_kinds.Extension ∷ []

abbrev pub section_of : ℕ → Option Section
section_of type_byte = of_type section_row all_sections type_byte

abbrev pub subsection_of : ℕ → Option Subsection
subsection_of type_byte = of_type subsection_row all_subsections type_byte

-- the place of the length of a part, if there is one of this type
abbrev pub length_of : {X : Type 0} → KrlFault → (X → Place) → Option X → Result Place KrlFault
length_of unknown length_place None = Err unknown
length_of unknown length_place (Some part) = Ok (length_place part)

-- The place after the type byte of a section. Only a signature may follow a signature.
abbrev pub section_of_type : (signed : Bool) → ℕ → Result Place KrlFault
section_of_type signed type_byte =
    if type_byte == signature_type then Ok (places.Field fields.SignatureKey 0 0)
    else if signed then Err faults.AfterSignature
    else length_of faults.UnknownSection places.SectionLength (section_of type_byte)

-- The place after the type byte of a subsection, in a section that has `room_before` bytes after
-- it.
abbrev pub subsection_of_type : (room_before type_byte : ℕ) → Result Place KrlFault
subsection_of_type room_before type_byte =
    length_of faults.UnknownCertSection (λ part. places.SubsectionLength part room_before)
    (subsection_of type_byte)
