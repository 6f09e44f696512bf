-- The rest of a list from each place on: its spelling, if a sequence of fields leads to the end of the
-- list and uses up the bytes, and its entries.
use Rattle.krl_format.proofs.Common.{[], ◌*◌, ◌++◌, ◌+◌, ◌-◌, ◌<◌, ◌^◌, ◌∷◌, ◌≡◌, ◌≤◌, AllByRecursion}
use Rattle.krl_format.proofs.Common.{bit_at, BitmapEntry, Bool, entries_of}
use Rattle.krl_format.proofs.Common.{Entry, Field, fields_after, false, flat_map, Header, header_from}
use Rattle.krl_format.proofs.Common.{header_with, IsItem, IsNotNegative, IsSignature, item_entry, item_size}
use Rattle.krl_format.proofs.Common.{ItemKind, KrlFault, BeginsWithTable, length, List, map}
use Rattle.krl_format.proofs.Common.{NamesSame, number, number_of, Place, RangeEntry, SerialsEntry}
use Rattle.krl_format.proofs.Common.{None, Option, row_of, SignaturesLast, Some}
use Rattle.krl_format.proofs.Common.{SpelledSection, rows_of, Table}
use Rattle.krl_format.proofs.Common.{SpellsEach, SpellsSection, SpellsSubsection, Row, string}
use Rattle.krl_format.proofs.Common.{Subsection, subsection_entries, subsection_type}
use Rattle.krl_format.proofs.Common.{section_row, subsection_row, SubsectionContent, Text, true, ℕ}
use Rattle.krl_format.specs.Field.{authority_with}
use Rattle.krl_format.specs.declared.place.Place.TheVariants as places
use Rattle.krl_format.specs.declared.place.field.Table.TheVariants as tables

-- a property of the bytes that are left and of the entries of their fields
abbrev pub Rest : Type 1
Rest = List ℕ → List Entry → Type 0

abbrev pub LastFor : Bool → List SpelledSection → Type 0
LastFor true sections = AllByRecursion IsSignature sections
LastFor false sections = SignaturesLast sections

pub record FromSections (signed : Bool) (K : Type 0) (bytes : List ℕ) (more : List Entry) : Type 0 where
  pub sections : List SpelledSection
  pub spelled : SpellsEach SpellsSection bytes sections
  pub last : LastFor signed sections
  pub named : NamesSame more (entries_of sections)
  pub known : K

pub record FromNumber (Then : ℕ → Rest) (bytes : List ℕ) (more : List Entry) : Type 0 where
  pub value : ℕ
  pub rest : List ℕ
  pub parts : bytes ≡ number 8 value ++ rest
  pub fits : value < 2 ^ 64
  pub then_is : Then value rest more

-- a length, and the bytes that it counts
pub record FromLength (Then : ℕ → Rest) (bytes : List ℕ) (more : List Entry) : Type 0 where
  pub size : ℕ
  pub rest : List ℕ
  pub parts : bytes ≡ number 4 size ++ rest
  pub fits : size < 2 ^ 32
  pub then_is : Then size rest more

pub record FromContent (size : ℕ) (Then : List ℕ → Rest) (bytes : List ℕ) (more : List Entry) : Type 0 where
  pub content : List ℕ
  pub rest : List ℕ
  pub parts : bytes ≡ content ++ rest
  pub size_is : length content ≡ size
  pub then_is : Then content rest more

-- items that fill the rest of a section or a subsection
pub record FromItems {X : Type 0} (spell : X → List ℕ) (Good : X → Type 0) (entry : X → Entry) (left : ℕ) (Then : Rest) (bytes : List ℕ) (more : List Entry) : Type 0 where
  pub items : List X
  pub rest : List ℕ
  pub others : List Entry
  pub parts : bytes ≡ flat_map spell items ++ rest
  pub size_is : length (flat_map spell items) ≡ left
  pub good : AllByRecursion Good items
  pub named : more ≡ map entry items ++ others
  pub then_is : Then rest others

-- the bytes of an item
pub record FromItem (size : ℕ) (entry : List ℕ → Entry) (Then : Rest) (bytes : List ℕ) (more : List Entry) : Type 0 where
  pub content : List ℕ
  pub rest : List ℕ
  pub others : List Entry
  pub parts : bytes ≡ content ++ rest
  pub size_is : length content ≡ size
  pub named : more ≡ entry content ∷ others
  pub then_is : Then rest others

-- subsections that fill the rest of their section
pub record FromSubsections (K : Type 0) (a : List ℕ) (left : ℕ) (bytes : List ℕ) (more : List Entry) : Type 0 where
  pub subsections : List Subsection
  pub body : List ℕ
  pub rest : List ℕ
  pub others : List Entry
  pub parts : bytes ≡ body ++ rest
  pub size_is : length body ≡ left
  pub spelled : SpellsEach SpellsSubsection body subsections
  pub named : NamesSame more (flat_map (subsection_entries a) subsections ++ others)
  pub then_is : FromSections false K rest others

-- the content of a subsection as a string, with this many bytes of the section left, and the rest
-- after it
pub record FromPart (K : Type 0) (a : List ℕ) (type_byte left : ℕ) (bytes : List ℕ) (more : List Entry) : Type 0 where
  pub subsection : Subsection
  pub content : List ℕ
  pub rest : List ℕ
  pub others : List Entry
  pub type_is : subsection_type subsection ≡ type_byte
  pub parts : bytes ≡ string content ++ rest
  pub fits : length content < 2 ^ 32
  pub room : 4 + length content ≤ left
  pub content_is : SubsectionContent content subsection
  pub named : NamesSame more (subsection_entries a subsection ++ others)
  pub then_is : FromSubsections K a (left - 4 - length content) rest others

abbrev pub SerialItems : Type 0 → List ℕ → ℕ → ℕ → Rest
SerialItems K a left after =
    FromItems (number 8) (λ n. n < 2 ^ 64) (λ n. SerialsEntry a (n ∷ [])) left (FromSubsections K a after)

-- strings of one kind, which have the size of its items
abbrev pub Items : Type 0 → ItemKind → List ℕ → ℕ → ℕ → Rest
Items K kind a left after =
    FromItems string (IsItem kind) (item_entry kind a) left (FromSubsections K a after)

pub record FromMax (K : Type 0) (a : List ℕ) (min after : ℕ) (bytes : List ℕ) (more : List Entry) : Type 0 where
  pub max : ℕ
  pub rest : List ℕ
  pub others : List Entry
  pub parts : bytes ≡ number 8 max ++ rest
  pub ordered : min ≤ max
  pub fits : max < 2 ^ 64
  pub named : more ≡ RangeEntry a min max ∷ others
  pub then_is : FromSubsections K a after rest others

-- the last `left` of the `size` bytes of a bitmap
pub record FromBits (K : Type 0) (a : List ℕ) (offset size left after : ℕ) (bytes : List ℕ) (more : List Entry) : Type 0 where
  pub bits : List ℕ
  pub rest : List ℕ
  pub others : List Entry
  pub parts : bytes ≡ bits ++ rest
  pub size_is : length bits ≡ left
  pub low : number_of bits < 2 ^ (8 * length bits)
  pub positive : left ≡ size → IsNotNegative bits
  pub within : (bit : ℕ) → bit_at (number_of bits) bit ≡ 1 → offset + bit < 2 ^ 64
  pub named : NamesSame more (BitmapEntry a offset (number_of bits) ∷ others)
  pub then_is : FromSubsections K a after rest others

-- a bitmap as a string that fills the rest of its subsection
pub record FromBitmap (K : Type 0) (a : List ℕ) (offset left after : ℕ) (bytes : List ℕ) (more : List Entry) : Type 0 where
  pub bits : List ℕ
  pub rest : List ℕ
  pub others : List Entry
  pub parts : bytes ≡ string bits ++ rest
  pub size_is : length (string bits) ≡ left
  pub positive : IsNotNegative bits
  pub within : (bit : ℕ) → bit_at (number_of bits) bit ≡ 1 → offset + bit < 2 ^ 64
  pub named : NamesSame more (BitmapEntry a offset (number_of bits) ∷ others)
  pub then_is : FromSubsections K a after rest others

-- an offset and a bitmap
abbrev pub FromOffset : Type 0 → List ℕ → (left after : ℕ) → Rest
FromOffset K a left after = λ bytes more. (8 ≤ left) × FromNumber (λ offset. FromBitmap K a offset (left - 8) after) bytes more

-- ---- tables

-- The values of some rows, whatever the values before them.
pub record FromRow (rows : List (Row KrlFault)) (Then : List (List ℕ) → Rest) (bytes : List ℕ) (more : List Entry) : Type 0 where
  pub values : List (List ℕ)
  pub rest : List ℕ
  pub leads : (before : List (List ℕ)) → BeginsWithTable rows before bytes (before ++ values) rest
  pub then_is : Then values rest more

-- A table in a part that has `left` bytes left. `Then` has the number of bytes that are left after it.
abbrev pub InRoom : ℕ → List (Row KrlFault) → (List (List ℕ) → ℕ → Rest) → Rest
InRoom left rows Then = λ bytes more.
    FromRow rows (λ values rest more. (after : ℕ) × (length bytes + after ≡ left + length rest) × Then values after rest more) bytes more

-- the header with the value of a field, if it is one of the header
abbrev pub value_in : Table → Field → List ℕ → Header → Header
value_in tables.Header field value h = header_with field value h
value_in _ field value h = h

-- the authority with the value of a field, if it is one of a section of certificates
abbrev pub authority_in : Table → Field → List ℕ → List ℕ → List ℕ
authority_in tables.Certificates field value a = authority_with field value a
authority_in _ field value a = a

-- the authority after the values of some fields
abbrev pub authority_from : List Field → List ℕ → List (List ℕ) → List ℕ
authority_from [] a values = a
authority_from (field ∷ fields) a [] = a
authority_from (field ∷ fields) a (value ∷ values) = authority_from fields (authority_with field value a) values

-- The fields of a table, and what comes after it. `h` is the header so far, and `last` the one at the
-- end of the list. An extension fills the part around it.
abbrev pub FromTable : Table → Header → Header → List ℕ → List Field → (left after : ℕ) → Rest
FromTable tables.Header last h a fields left after =
    FromRow (rows_of fields) (λ values. FromSections false (last ≡ header_from fields h values))
FromTable tables.Signature last h a fields left after = FromRow (rows_of fields) (λ values. FromSections true (last ≡ h))
FromTable tables.Certificates last h a fields left after =
    InRoom left (rows_of fields) (λ values room. FromSubsections (last ≡ h) (authority_from fields a values) room)
FromTable tables.Extension last h a fields left after =
    InRoom left (rows_of fields) (λ values room bytes more. (room ≡ 0) × FromSubsections (last ≡ h) a after bytes more)

abbrev pub FromField : Header → Header → List ℕ → Field → (left after : ℕ) → Rest
FromField last h a field left after = FromTable (row_of field).table last h a (field ∷ fields_after field) left after

-- the bytes that are left of the part around a table, after a field: none after an extension
abbrev pub room_in : Table → Option Field → ℕ → ℕ
room_in tables.Extension None left = 0
room_in tables.Extension (Some next) left = left
room_in _ next left = left

-- ---- all places, under an authority; h is the header so far

abbrev pub Completes : Header → Header → List ℕ → Place → Rest
Completes last h a (places.Field field left after) = FromField last h a field left after
Completes last h a (places.Content field size left after) =
    FromContent size (λ text bytes more. (row_of field).row.part ≡ Text
    → FromTable (row_of field).table last (value_in (row_of field).table field text h) (authority_in (row_of field).table field text a) (fields_after field)
    (room_in (row_of field).table (row_of field).next left) after bytes more)
Completes last h a (places.SectionType signed) = FromSections signed (last ≡ h)
Completes last h a (places.SectionLength section) = λ bytes more. FromSections false (last ≡ h) ((section_row section).type_byte ∷ bytes) more
Completes last h a (places.SubsectionLength part left) = FromPart (last ≡ h) a (subsection_row part).type_byte left
Completes last h a (places.ItemLength kind left after) = Items (last ≡ h) kind a left after
Completes last h a (places.Item kind size left after) =
    FromItem (item_size kind size) (item_entry kind a) (Items (last ≡ h) kind a left after)
Completes last h a (places.SubsectionType left) = FromSubsections (last ≡ h) a left
Completes last h a (places.Serial left after) = SerialItems (last ≡ h) a left after
Completes last h a (places.RangeMin after) = FromNumber (λ min. FromMax (last ≡ h) a min after)
Completes last h a (places.RangeMax min after) = FromMax (last ≡ h) a min after
Completes last h a (places.Offset left after) = FromOffset (last ≡ h) a left after
Completes last h a (places.BitmapSize offset left after) = FromBitmap (last ≡ h) a offset left after
Completes last h a (places.Byte offset size left after) =
    λ bytes more. 0 < left → FromBits (last ≡ h) a offset size left after bytes more
