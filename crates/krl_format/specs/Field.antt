-- The tables of fields in a list (PROTOCOL.krl): the header, a signature, the beginning of a
-- section of certificates, and an extension.
use Rattle.std.specs.Prelude.{ℕ, zero, suc, ◌==◌, List, [], ◌∷◌, map, Option, Some, None}
use Rattle.std.specs.Prelude.{slice_index}
use Rattle.ssh_wire.specs.Rows.{Number, Part, Row, Text, fault_unless, passes, row}
use Rattle.krl_types.specs.declared.krl_fault.KrlFault.{KrlFault}
use Rattle.krl_types.specs.declared.krl_fault.KrlFault.TheVariants as faults
use Rattle.krl_format.specs.declared.header.Header.{Header}
use Rattle.krl_format.specs.declared.place.field.Field.{Field}
use Rattle.krl_format.specs.declared.place.field.Field.TheVariants as fields
use Rattle.krl_format.specs.declared.place.field.FieldPart.{FieldPart}
use Rattle.krl_format.specs.declared.place.field.FieldPart.TheVariants as parts
use Rattle.krl_format.specs.declared.place.field.Table.{Table}
use Rattle.krl_format.specs.declared.place.field.Table.TheVariants as tables

-- A field of a list: its table, its row in that table, and the next field of the table, if there
-- is one.
pub record FieldRow : Type 0 where
  pub table : Table
  pub row : Row KrlFault
  pub next : Option Field

abbrev field_row
    : Table → Part → (List (List ℕ) → List ℕ → Option KrlFault) → Option Field → FieldRow
field_row table part judged next =
    record { table = table; row = row part judged; next = next }

-- a judgement: the number is this one
abbrev pub must_be : ℕ → KrlFault → List (List ℕ) → List ℕ → Option KrlFault
must_be n fault before value = fault_unless fault (slice_index value 0 == n)

-- the magic as a number: `SSHKRL`, a line feed and a zero byte
abbrev pub magic_number : ℕ
magic_number = 0x5353484b524c0a00

-- The header has the magic, format version 1, the list's version and date, flags, a reserved string
-- and a comment. A signature has a key and the signature. A section of certificates begins with
-- an authority and a reserved string. An extension has a name, a zero byte for "not critical", and
-- contents.
abbrev pub row_of : Field → FieldRow
row_of fields.Magic =
    field_row tables.Header (Number 8) (must_be magic_number faults.Magic)
    (Some fields.FormatVersion)
row_of fields.FormatVersion =
    field_row tables.Header (Number 4) (must_be 1 faults.FormatVersion) (Some fields.Version)
row_of fields.Version = field_row tables.Header (Number 8) passes (Some fields.Date)
row_of fields.Date = field_row tables.Header (Number 8) passes (Some fields.Flags)
row_of fields.Flags = field_row tables.Header (Number 8) passes (Some fields.Reserved)
row_of fields.Reserved = field_row tables.Header Text passes (Some fields.Comment)
row_of fields.Comment = field_row tables.Header Text passes None
row_of fields.SignatureKey = field_row tables.Signature Text passes (Some fields.SignatureBytes)
row_of fields.SignatureBytes = field_row tables.Signature Text passes None
row_of fields.Authority =
    field_row tables.Certificates Text passes (Some fields.CertificatesReserved)
row_of fields.CertificatesReserved = field_row tables.Certificates Text passes None
row_of fields.ExtensionName = field_row tables.Extension Text passes (Some fields.Critical)
row_of fields.Critical =
    field_row tables.Extension (Number 1) (must_be 0 faults.CriticalExtension)
    (Some fields.ExtensionContents)
row_of fields.ExtensionContents = field_row tables.Extension Text passes None

-- at most this many fields of a table, from one on
abbrev pub fields_from : ℕ → Option Field → List Field
fields_from most None = []
fields_from zero (Some field) = []
fields_from (suc most) (Some field) = field ∷ fields_from most (row_of field).next

-- The fields of a table after one of them. No table has more.
abbrev pub fields_after : Field → List Field
fields_after field = fields_from 7 (row_of field).next

-- what the code's part is as a part of a table
abbrev pub part_of : FieldPart → Part
part_of (parts.Number size) = Number size
part_of parts.Text = Text

abbrev pub rows_of : List Field → List (Row KrlFault)
rows_of fields = map (λ field. (row_of field).row) fields

-- the table of a first field
abbrev pub table_of : Field → List (Row KrlFault)
table_of field = rows_of (field ∷ fields_after field)

-- ---- the values of the header

abbrev pub empty_header : Header
empty_header = record { version = 0; date = 0; comment = [] }

-- the header with the value of a field
abbrev pub header_with : Field → List ℕ → Header → Header
header_with fields.Version value header = record header { version = slice_index value 0 }
header_with fields.Date value header = record header { date = slice_index value 0 }
header_with fields.Comment value header = record header { comment = value }
header_with _ value header = header

-- the header with the values of some fields
abbrev pub header_from : List Field → Header → List (List ℕ) → Header
header_from [] header values = header
header_from (field ∷ fields) header [] = header
header_from (field ∷ fields) header (value ∷ values) =
    header_from fields (header_with field value header) values

-- ---- the authority of a section of certificates

-- the authority in force after the value of a field
abbrev pub authority_with : Field → (value authority : List ℕ) → List ℕ
authority_with fields.Authority value authority = value
authority_with _ value authority = authority
