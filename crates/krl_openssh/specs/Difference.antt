-- The fields of a list for which OpenSSH refuses it, or reads other names.
use Rattle.std.specs.Prelude.{ℕ, ◌-◌, ◌%◌, ◌==◌, ◌&&◌, ◌||◌, nat_lt, not, if◌then◌else◌}
use Rattle.std.specs.Prelude.{Bool, true, false, List, [], ◌∷◌, codes, length, take, Option, Some}
use Rattle.std.specs.Prelude.{None, Result, Ok, Err}
use Rattle.std.specs.List.{list_any}
use Rattle.ssh_wire.specs.Wire.{number_of}
use Rattle.ssh_key.specs.Key.{PublicKey}
use Rattle.ssh_key.specs.KeyReading.{key_at}
use Rattle.ssh_key.specs.declared.fault.KeyFault.{KeyFault}
use Rattle.ssh_key.specs.declared.kind.Kind.{Kind}
use Rattle.ssh_key.specs.declared.kind.Kind.TheVariants as key_kinds
use Rattle.openssh_keys.specs.Judgement.{judgement_of}
use Rattle.openssh_keys.specs.declared.judgement.Judgement.{Judgement}
use Rattle.openssh_keys.specs.declared.judgement.Judgement.TheVariants as judgements
use Rattle.krl_types.specs.declared.krl_fault.KrlFault.{KrlFault}
use Rattle.krl_format.specs.Field.{row_of}
use Rattle.krl_format.specs.Place.{expected}
use Rattle.krl_format.specs.declared.place.Place.{Place}
use Rattle.krl_format.specs.declared.place.Place.TheVariants as places
use Rattle.krl_format.specs.declared.place.field.Field.{Field}
use Rattle.krl_format.specs.declared.place.field.Field.TheVariants as fields
use Rattle.krl_format.specs.declared.place.field.Table.{Table}
use Rattle.krl_format.specs.declared.place.field.Table.TheVariants as tables
use Rattle.krl_types.specs.declared.item_kind.ItemKind.{ItemKind}
use Rattle.krl_types.specs.declared.item_kind.ItemKind.TheVariants as kinds
use Rattle.krl_format.specs.declared.section.Section.{Section}
use Rattle.krl_format.specs.declared.section.Section.TheVariants as section_kinds
use Rattle.krl_format.specs.declared.section.Subsection.{Subsection}
use Rattle.krl_format.specs.declared.section.Subsection.TheVariants as subsection_kinds
use Rattle.krl_openssh.specs.declared.difference.Difference.{Difference}
use Rattle.krl_openssh.specs.declared.difference.Difference.TheVariants as differences

abbrev pub difference_words : Difference → List ℕ
difference_words differences.Comment = codes "its comment has a zero byte"
difference_words differences.KeyId = codes "a key ID has a zero byte"
difference_words differences.SerialZero = codes "it names serial number 0"
difference_words differences.LongBitmap = codes "a bitmap has more than 2,048 bytes"
difference_words differences.Authority = codes "a CA is no key, or a key in another spelling"
difference_words differences.KeySize = codes "the key of a CA is too short or too long"
difference_words differences.Point = codes "the key of a CA has an invalid point"
difference_words differences.Dsa =
    codes "the key of a CA is DSA, which OpenSSH 10 does not read"
difference_words differences.Extension = codes "it has an extension"
difference_words differences.Signature = codes "it has a signature"

-- ---- one field

abbrev pub found_if : Bool → Difference → Option Difference
found_if true difference = Some difference
found_if false difference = None

abbrev pub has_zero : List ℕ → Bool
has_zero text = list_any (λ byte. byte == 0) text

-- OpenSSH drops a zero byte at the end, and refuses any other.
abbrev pub comment_difference : List ℕ → Option Difference
comment_difference comment =
    found_if (has_zero (take (length comment - 1) comment)) differences.Comment

-- a field of a table
abbrev pub table_difference : Table → Option Difference
table_difference tables.Header = None
table_difference tables.Signature = Some differences.Signature
table_difference tables.Certificates = None
table_difference tables.Extension = Some differences.Extension

-- a string of a list
abbrev pub item_difference : ItemKind → List ℕ → Option Difference
item_difference kinds.Key text = None
item_difference kinds.Sha1 text = None
item_difference kinds.Sha256 text = None
item_difference kinds.Id text = found_if (has_zero text) differences.KeyId

abbrev pub judgement_difference : Judgement → Option Difference
judgement_difference judgements.Accepted = None
judgement_difference judgements.Short = Some differences.KeySize
judgement_difference judgements.Long = Some differences.KeySize
judgement_difference judgements.Point = Some differences.Point

-- OpenSSH 10 reads no key of DSA.
abbrev pub kind_difference : Kind → Option Difference
kind_difference key_kinds.Dsa = Some differences.Dsa
kind_difference _ = None

abbrev pub or_later : Option Difference → Option Difference → Option Difference
or_later (Some difference) later = Some difference
or_later None later = later

abbrev pub key_difference : Result PublicKey KeyFault → Option Difference
key_difference (Ok key) =
    or_later (judgement_difference (judgement_of key)) (kind_difference key.kind)
key_difference (Err fault) = Some differences.Authority

-- An authority is empty, for all authorities, or a key.
abbrev pub authority_difference : List ℕ → Option Difference
authority_difference [] = None
authority_difference (byte ∷ bytes) = key_difference (key_at (byte ∷ bytes))

-- a string of a table
abbrev pub text_difference : Field → List ℕ → Option Difference
text_difference fields.Comment text = comment_difference text
text_difference fields.Authority text = authority_difference text
text_difference _ text = None

-- a section of this kind
abbrev pub section_difference : Section → Option Difference
section_difference section_kinds.Certificates = None
section_difference section_kinds.Keys = None
section_difference section_kinds.Sha1s = None
section_difference section_kinds.Sha256s = None
section_difference section_kinds.Extension = Some differences.Extension

-- a subsection of this kind
abbrev pub subsection_difference : Subsection → Option Difference
subsection_difference subsection_kinds.Serials = None
subsection_difference subsection_kinds.Range = None
subsection_difference subsection_kinds.Bitmap = None
subsection_difference subsection_kinds.Ids = None
subsection_difference subsection_kinds.Extension = Some differences.Extension

-- OpenSSH reads at most 2,048 bytes of a bitmap, after an optional first byte that is zero.
abbrev pub is_long : (size left byte : ℕ) → Bool
is_long size left byte =
    (left == size) && (nat_lt 2049 size || ((size == 2049) && not (byte == 0)))

-- The lowest bit of the last byte represents the offset.
abbrev pub names_zero : (offset left byte : ℕ) → Bool
names_zero offset left byte = ((offset == 0) && (left == 1)) && (byte % 2 == 1)

-- a byte of a bitmap; `left` of its `size` bytes remain, including this one
abbrev pub bits_difference : (offset size left byte : ℕ) → Option Difference
bits_difference offset size left byte =
    if is_long size left byte then Some differences.LongBitmap
    else found_if (names_zero offset left byte) differences.SerialZero

-- a whole field at a place
abbrev pub difference_at : Place → List ℕ → Option Difference
difference_at (places.Field row room_before room_after) field = table_difference (row_of row).table
difference_at (places.Content row size room_before room_after) field = text_difference row field
difference_at (places.SectionType signed) field = None
difference_at (places.SectionLength section) field = section_difference section
difference_at (places.SubsectionType room_before) field = None
difference_at (places.SubsectionLength part room_before) field = subsection_difference part
difference_at (places.ItemLength kind room_before room_after) field = None
difference_at (places.Item kind size room_before room_after) field = item_difference kind field
difference_at (places.Serial room_before room_after) field =
    found_if (number_of field == 0) differences.SerialZero
difference_at (places.RangeMin room_after) field =
    found_if (number_of field == 0) differences.SerialZero
difference_at (places.RangeMax min room_after) field = None
difference_at (places.Offset room_before room_after) field = None
difference_at (places.BitmapSize offset room_before room_after) field = None
difference_at (places.Byte offset size room_before room_after) field =
    bits_difference offset size room_before (number_of field)

-- ---- all fields

abbrev pub place_or : Place → Result Place KrlFault → Place
place_or other (Ok next) = next
place_or other (Err fault) = other

-- the first difference in a sequence of fields, of which the first is at this place
abbrev pub first_difference : Place → List (List ℕ) → Option Difference
first_difference place [] = None
first_difference place (field ∷ fields) =
    or_later (difference_at place field)
    (first_difference (place_or place ((expected place).judged field)) fields)
