-- The bytes of each table of a list, field by field, as PROTOCOL.krl lists them.
--
-- Reading and spelling use the same tables, so a wrong row would be wrong in both. The laws of
-- `laws/layout` say that the tables spell exactly these bytes.
use Rattle.std.specs.Prelude.{◌≡◌, ℕ, ◌<◌, ◌^◌, List, [], ◌∷◌, length}
use Rattle.std.specs.List.{concat}
use Rattle.ssh_wire.specs.Wire.{number, string}
use Rattle.krl_format.specs.Krl.{magic}
use Rattle.krl_format.specs.Section.{section_row, signature_type, subsection_row}
use Rattle.krl_format.specs.declared.header.Header.{Header}
use Rattle.krl_format.specs.declared.section.Section.TheVariants as section_kinds
use Rattle.krl_format.specs.declared.section.Subsection.TheVariants as subsection_kinds

-- The header:
--
--     uint64  KRL_MAGIC           uint64  flags
--     uint32  KRL_FORMAT_VERSION  string  reserved
--     uint64  krl_version         string  comment
--     uint64  generated_date
pub record BeginsWithHeader (bytes : List ℕ) (header : Header) (rest : List ℕ) : Type 0 where
  pub flags : ℕ
  pub reserved : List ℕ
  pub spelled : bytes ≡ concat (
      magic
      ∷ number 4 1
      ∷ number 8 header.version
      ∷ number 8 header.date
      ∷ number 8 flags
      ∷ string reserved
      ∷ string header.comment
      ∷ rest
      ∷ [])
  pub version_fits : header.version < 2 ^ 64
  pub date_fits : header.date < 2 ^ 64
  pub flags_fit : flags < 2 ^ 64
  pub reserved_fits : length reserved < 2 ^ 32
  pub comment_fits : length header.comment < 2 ^ 32

-- A signature, after its type byte:
--
--     string  signature_key
--     string  signature
pub record IsSignatureText (content : List ℕ) : Type 0 where
  pub key : List ℕ
  pub signature : List ℕ
  pub spelled : content ≡ concat (string key ∷ string signature ∷ [])
  pub key_fits : length key < 2 ^ 32
  pub signature_fits : length signature < 2 ^ 32

-- The content of an extension, where 0 means that it is not critical:
--
--     string  extension_name
--     byte    critical
--     string  contents
pub record IsExtensionText (content : List ℕ) : Type 0 where
  pub name : List ℕ
  pub contents : List ℕ
  pub spelled : content ≡ concat (string name ∷ (0 ∷ []) ∷ string contents ∷ [])
  pub name_fits : length name < 2 ^ 32
  pub contents_fit : length contents < 2 ^ 32

-- A section of certificates begins with the key of its authority:
--
--     string  ca_key
--     string  reserved
pub record BeginsWithAuthority (content authority rest : List ℕ) : Type 0 where
  pub reserved : List ℕ
  pub spelled : content ≡ concat (string authority ∷ string reserved ∷ rest ∷ [])
  pub authority_fits : length authority < 2 ^ 32
  pub reserved_fits : length reserved < 2 ^ 32

-- The type bytes of sections, and of the subsections of a section of certificates:
--
--     KRL_SECTION_CERTIFICATES        1      KRL_SECTION_CERT_SERIAL_LIST    0x20
--     KRL_SECTION_EXPLICIT_KEY        2      KRL_SECTION_CERT_SERIAL_RANGE   0x21
--     KRL_SECTION_FINGERPRINT_SHA1    3      KRL_SECTION_CERT_SERIAL_BITMAP  0x22
--     KRL_SECTION_SIGNATURE           4      KRL_SECTION_CERT_KEY_ID         0x23
--     KRL_SECTION_FINGERPRINT_SHA256  5      KRL_SECTION_CERT_EXTENSION      0x39
--     KRL_SECTION_EXTENSION           255
pub record HaveTheseTypes : Type 0 where
  pub certificates : (section_row section_kinds.Certificates).type_byte ≡ 1
  pub keys : (section_row section_kinds.Keys).type_byte ≡ 2
  pub sha1s : (section_row section_kinds.Sha1s).type_byte ≡ 3
  pub signature : signature_type ≡ 4
  pub sha256s : (section_row section_kinds.Sha256s).type_byte ≡ 5
  pub extension : (section_row section_kinds.Extension).type_byte ≡ 255
  pub serials : (subsection_row subsection_kinds.Serials).type_byte ≡ 0x20
  pub range : (subsection_row subsection_kinds.Range).type_byte ≡ 0x21
  pub bitmap : (subsection_row subsection_kinds.Bitmap).type_byte ≡ 0x22
  pub ids : (subsection_row subsection_kinds.Ids).type_byte ≡ 0x23
  pub subsection_extension : (subsection_row subsection_kinds.Extension).type_byte ≡ 0x39
