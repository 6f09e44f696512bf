-- The places in a list where a field can be expected, and the table of what is expected at each
-- (PROTOCOL.krl).
use Rattle.std.specs.Prelude.{ℕ, zero, suc, ◌+◌, ◌-◌, ◌*◌, ◌==◌, nat_lt, nat_le, if◌then◌else◌}
use Rattle.std.specs.Prelude.{Bool, true, false, not, List, [], ◌∷◌, Option, Some, None, Result, Ok}
use Rattle.std.specs.Prelude.{Err}
use Rattle.std.specs.Int.{leading_zeros, w8}
use Rattle.ssh_wire.specs.Rows.{Number, Part, Text, unless}
use Rattle.ssh_wire.specs.Wire.{number_of}
use Rattle.krl_types.specs.declared.krl_fault.KrlFault.{KrlFault}
use Rattle.krl_types.specs.declared.krl_fault.KrlFault.TheVariants as faults
use Rattle.krl_format.specs.declared.header.Header.{Header}
use Rattle.krl_format.specs.declared.place.Place.{Place}
use Rattle.krl_format.specs.declared.place.Place.TheVariants as places
use Rattle.krl_format.specs.declared.place.field.Field.{Field}
use Rattle.krl_format.specs.declared.place.field.Table.{Table}
use Rattle.krl_format.specs.declared.place.field.Table.TheVariants as tables
use Rattle.krl_types.specs.Entry.{BitmapEntry, Entry, RangeEntry, SerialsEntry}
use Rattle.krl_types.specs.Item.{item_entry, item_size}
use Rattle.krl_format.specs.Field.{authority_with, header_with, row_of}
use Rattle.krl_format.specs.Section.{content_of, judge, next_item, next_serial, next_subsection}
use Rattle.krl_format.specs.Section.{section_of_type, section_row, subsection_of_type}
use Rattle.krl_format.specs.Section.{subsection_row}

-- An expected field: its size in bytes; the number of bytes that the part around it has left, if
-- there is such a part and no earlier length has already set the field's size; and the judgement on
-- the whole field, which is the place after it or why it is refused.
pub record Expected : Type 0 where
  pub size : ℕ
  pub room : Option ℕ
  pub judged : List ℕ → Result Place KrlFault

-- ---- kinds of fields

-- a field that may be any bytes of this size
abbrev pub any_bytes : ℕ → Place → Expected
any_bytes size next =
    record { size = size; room = None; judged = λ field. Ok next }

-- a number that needs no room, judged by its value
abbrev pub any_number : ℕ → (ℕ → Result Place KrlFault) → Expected
any_number size judged = record {
  size = size;
  room = None;
  judged = λ field. judged (number_of field);
}

-- a length is good if it counts no more bytes than are left after it
abbrev pub within : ℕ → (ℕ → Result Place KrlFault) → ℕ → Result Place KrlFault
within room_before next size =
    if nat_lt (room_before - 4) size then Err faults.Length else next size

abbrev pub length_within : ℕ → (ℕ → Result Place KrlFault) → Expected
length_within room_before next = record {
  size = 4;
  room = Some room_before;
  judged = λ field. within room_before next (number_of field);
}

-- a length that must count all bytes that are left after it
abbrev pub length_of_rest : ℕ → Place → Expected
length_of_rest room_before next = record {
  size = 4;
  room = Some room_before;
  judged = λ field. judge (number_of field == room_before - 4) faults.Length next;
}

-- a number in a part that has this many bytes left
abbrev pub number_within : ℕ → (ℕ → Place) → Expected
number_within room_before next = record {
  size = 8;
  room = Some room_before;
  judged = λ field. Ok (next (number_of field));
}

-- a byte in a part that has this many bytes left
abbrev pub byte_within : ℕ → (ℕ → Result Place KrlFault) → Expected
byte_within room_before judged = record {
  size = 1;
  room = Some room_before;
  judged = λ field. judged (number_of field);
}

-- `room_before` of the `size` bytes of a bitmap are left
abbrev pub next_bits : (offset size room_before room_after : ℕ) → Place
next_bits offset size zero room_after = next_subsection room_after
next_bits offset size (suc room_before) room_after =
    places.Byte offset size (suc room_before) room_after

-- ---- judgements

-- the index of the highest set bit of a byte that is not 0
abbrev pub highest_bit : ℕ → ℕ
highest_bit byte = 7 - leading_zeros w8 byte

-- Whether a set bit of the byte is the bit of a number past 2^64-1. The lowest bit is that of
-- `base`.
abbrev pub passes_end : ℕ → ℕ → Bool
passes_end base byte =
    if byte == 0 then false else nat_le 18446744073709551616 (base + highest_bit byte)

-- the number of the lowest bit of a byte of a bitmap, if `room_before` bytes of the bitmap are left
-- with this one
abbrev pub base_of : (offset room_before : ℕ) → ℕ
base_of offset room_before = offset + 8 * (room_before - 1)

abbrev pub bits_within : (offset size room_before room_after byte : ℕ) → Result Place KrlFault
bits_within offset size room_before room_after byte =
    judge (not (passes_end (base_of offset room_before) byte)) faults.BitmapWraps
    (next_bits offset size (room_before - 1) room_after)

-- the highest bit of a bitmap's first byte is its sign
abbrev pub bits_judged : (offset size room_before room_after byte : ℕ) → Result Place KrlFault
bits_judged offset size room_before room_after byte =
    if room_before == size
    then (if nat_lt byte 128 then bits_within offset size room_before room_after byte
    else Err faults.BitmapNegative) else bits_within offset size room_before room_after byte

-- ---- the format as a table, section by section

-- the place after a table; `room_after` bytes of a section are left after an extension
abbrev pub table_end : Table → (room_before room_after : ℕ) → Place
table_end tables.Header room_before room_after = places.SectionType false
table_end tables.Signature room_before room_after = places.SectionType true
table_end tables.Certificates room_before room_after = next_subsection room_before
table_end tables.Extension room_before room_after = next_subsection room_after

-- the place of the next field of a table, or the place after the table
abbrev pub place_in : Table → Option Field → (room_before room_after : ℕ) → Place
place_in table None room_before room_after = table_end table room_before room_after
place_in table (Some field) room_before room_after = places.Field field room_before room_after

abbrev pub place_after : Field → (room_before room_after : ℕ) → Place
place_after field room_before room_after =
    place_in (row_of field).table (row_of field).next room_before room_after

-- whether the table is in a part that has some bytes left
abbrev pub room_of : Table → ℕ → Option ℕ
room_of tables.Certificates room_before = Some room_before
room_of tables.Extension room_before = Some room_before
room_of _ room_before = None

-- The length of a string. The last string of an extension fills it.
abbrev pub length_judged
    : Field → Table → Option Field → (room_before room_after size : ℕ)
    → Result Place KrlFault
length_judged field tables.Extension (Some next) room_before room_after size =
    within room_before
    (λ size. Ok (places.Content field size (room_before - 4 - size) room_after)) size
length_judged field tables.Extension None room_before room_after size =
    judge (size == room_before - 4) faults.Length (places.Content field size 0 room_after)
length_judged field tables.Certificates next room_before room_after size =
    within room_before
    (λ size. Ok (places.Content field size (room_before - 4 - size) room_after)) size
length_judged field _ next room_before room_after size =
    Ok (places.Content field size room_before room_after)

-- the size in bytes of a number, or of the length of a string
abbrev pub part_size : Part → ℕ
part_size (Number size) = size
part_size _ = 4

abbrev pub part_judged
    : Field → Part → (room_before room_after : ℕ) → List ℕ → Result Place KrlFault
part_judged field (Number size) room_before room_after number =
    unless ((row_of field).row.judged [] (number_of number ∷ []))
    (place_after field (room_before - size) room_after)
part_judged field _ room_before room_after length =
    length_judged field (row_of field).table (row_of field).next room_before room_after
    (number_of length)

abbrev pub part_expected : Field → Part → (room_before room_after : ℕ) → Expected
part_expected field part room_before room_after = record {
  size = part_size part;
  room = room_of (row_of field).table room_before;
  judged = part_judged field part room_before room_after;
}

-- the number of a row, or the length of its string
abbrev pub row_expected : Field → (room_before room_after : ℕ) → Expected
row_expected field room_before room_after =
    part_expected field (row_of field).row.part room_before room_after

abbrev pub expected : Place → Expected
expected (places.Field field room_before room_after) = row_expected field room_before room_after
expected (places.Content field size room_before room_after) =
    any_bytes size (place_after field room_before room_after)
expected (places.SectionType signed) = any_number 1 (section_of_type signed)
expected (places.SectionLength section) =
    any_number 4 (λ size. content_of (section_row section) size 0)
expected (places.SubsectionType room_before) =
    byte_within room_before (subsection_of_type (room_before - 1))
expected (places.SubsectionLength part room_before) =
    length_within room_before
    (λ size. content_of (subsection_row part) size (room_before - 4 - size))
expected (places.ItemLength kind room_before room_after) =
    length_within room_before
    (λ size. judge (size == item_size kind size) faults.HashLength
    (places.Item kind size (room_before - 4 - size) room_after))
expected (places.Item kind size room_before room_after) =
    any_bytes (item_size kind size) (next_item kind room_before room_after)
expected (places.Serial room_before room_after) =
    number_within room_before (λ serial. next_serial (room_before - 8) room_after)
expected (places.RangeMin room_after) = any_number 8 (λ min. Ok (places.RangeMax min room_after))
expected (places.RangeMax min room_after) =
    any_number 8 (λ max. judge (nat_le min max) faults.RangeReversed (next_subsection room_after))
expected (places.Offset room_before room_after) =
    number_within room_before (λ offset. places.BitmapSize offset (room_before - 8) room_after)
expected (places.BitmapSize offset room_before room_after) =
    length_of_rest room_before (next_bits offset (room_before - 4) (room_before - 4) room_after)
expected (places.Byte offset size room_before room_after) =
    any_number 1 (bits_judged offset size room_before room_after)

-- whether the list may end at this place
abbrev pub can_end : Place → Bool
can_end (places.SectionType signed) = true
can_end _ = false

-- ---- the entries of fields

-- the entries of a field at a place, under the authority in force
abbrev pub names : Place → (authority field : List ℕ) → List Entry
names (places.Item kind size room_before room_after) authority field =
    item_entry kind authority field ∷ []
names (places.Serial room_before room_after) authority field =
    SerialsEntry authority (number_of field ∷ []) ∷ []
names (places.RangeMax min room_after) authority field =
    RangeEntry authority min (number_of field) ∷ []
names (places.Byte offset size room_before room_after) authority field =
    BitmapEntry authority (base_of offset room_before) (number_of field) ∷ []
names _ authority field = []

-- The authority in force after a field. A section begins without an authority.
abbrev pub authority_after : Place → (authority field : List ℕ) → List ℕ
authority_after (places.Content field size room_before room_after) authority text =
    authority_with field text authority
authority_after (places.SectionType signed) authority field = []
authority_after _ authority field = authority

-- the header with a number; the length of a string is no value
abbrev pub header_with_number : Part → Field → List ℕ → Header → Header
header_with_number (Number size) field number header =
    header_with field (number_of number ∷ []) header
header_with_number _ field length header = header

abbrev pub header_with_text : Part → Field → List ℕ → Header → Header
header_with_text Text field text header = header_with field text header
header_with_text _ field text header = header

-- the known parts of the header after a field
abbrev pub header_after : Place → Header → List ℕ → Header
header_after (places.Field field room_before room_after) header number =
    header_with_number (row_of field).row.part field number header
header_after (places.Content field size room_before room_after) header text =
    header_with_text (row_of field).row.part field text header
header_after _ header field = header
