-- A key revocation list (PROTOCOL.krl): its header, its sections, and how they are spelled.
use Rattle.std.specs.Prelude.{◌≡◌, ℕ, ◌+◌, ◌<◌, ◌≤◌, ◌^◌, List, [], ◌∷◌, ◌++◌, length}
use Rattle.std.specs.Prelude.{slice_index_or}
use Rattle.std.specs.List.{flat_map, AllByRecursion}
use Rattle.std.specs.Int.{bit_at}
use Rattle.ssh_wire.specs.Rows.{BeginsWithTable, Row}
use Rattle.ssh_wire.specs.Wire.{number, number_of, string, strings}
use Rattle.krl_types.specs.declared.krl_fault.KrlFault.{KrlFault}
use Rattle.krl_format.specs.Field.{empty_header, fields_after, header_from, table_of}
use Rattle.krl_format.specs.declared.header.Header.{Header}
use Rattle.krl_format.specs.Section.{section_row, signature_type, subsection_row}
use Rattle.krl_format.specs.declared.place.field.Field.TheVariants as fields
use Rattle.krl_format.specs.declared.section.Section.{Section}
use Rattle.krl_format.specs.declared.section.Section.TheVariants as section_kinds
use Rattle.krl_format.specs.declared.section.Subsection.TheVariants as subsection_kinds

-- a subsection of a section of certificates
pub data Subsection : Type 0 where
  -- each of the serial numbers
  Serials : (numbers : List ℕ) → Subsection
  -- the serial numbers from the first to the last
  Range : (min max : ℕ) → Subsection
  -- the serial number offset + N for each set bit N of the number
  Bitmap : (offset number : ℕ) → Subsection
  -- key IDs
  Ids : (texts : List (List ℕ)) → Subsection
  -- an extension that may be skipped
  SubsectionExtension : Subsection

-- a section of a list
pub data SpelledSection : Type 0 where
  -- the revocations of one authority, or of all authorities if the authority has no bytes
  Certificates : (authority : List ℕ) (subsections : List Subsection) → SpelledSection
  -- explicit keys, each a blob
  Keys : (blobs : List (List ℕ)) → SpelledSection
  -- hashes of keys
  Sha1s : (hashes : List (List ℕ)) → SpelledSection
  Sha256s : (hashes : List (List ℕ)) → SpelledSection
  -- a signature, which is skipped
  Signature : SpelledSection
  -- an extension that may be skipped
  Extension : SpelledSection

-- the bytes of the magic
abbrev pub magic : List ℕ
magic = 0x53 ∷ 0x53 ∷ 0x48 ∷ 0x4b ∷ 0x52 ∷ 0x4c ∷ 0x0a ∷ 0x00 ∷ []

abbrev pub header_fields : List (Row KrlFault)
header_fields = table_of fields.Magic

-- the header whose fields have these values
abbrev pub header_of : List (List ℕ) → Header
header_of values = header_from (fields.Magic ∷ fields_after fields.Magic) empty_header values

abbrev pub signature_fields : List (Row KrlFault)
signature_fields = table_of fields.SignatureKey

abbrev pub extension_fields : List (Row KrlFault)
extension_fields = table_of fields.ExtensionName

-- the fields before the subsections of a section of certificates: the authority and a reserved
-- string
abbrev pub authority_fields : List (Row KrlFault)
authority_fields = table_of fields.Authority

-- The text is the fields of a table, with any values.
abbrev pub SpellsFields : List (Row KrlFault) → List ℕ → Type 0
SpellsFields rows text = (values : List (List ℕ)) × BeginsWithTable rows [] text values []

-- The text is the spellings of the items, one after the other.
abbrev pub SpellsEach : {X : Type 0} → (List ℕ → X → Type 0) → List ℕ → List X → Type 0
SpellsEach Spelling text [] = text ≡ []
SpellsEach Spelling text (item ∷ items) =
    (first : List ℕ) × ((rest : List ℕ) × ((text ≡ first ++ rest)
    × Spelling first item × SpellsEach Spelling rest items))

-- numbers of eight bytes, one after the other
abbrev pub numbers_text : List ℕ → List ℕ
numbers_text numbers = flat_map (number 8) numbers

-- the bytes of a bitmap are the two's complement of a number that is not negative
abbrev pub IsNotNegative : List ℕ → Type 0
IsNotNegative [] = Unit {0}
IsNotNegative (byte ∷ bytes) = byte < 128

-- A bitmap: an offset, and a number, which may begin with zero bytes. No set bit of it is the bit
-- of a serial number past 2^64-1.
pub record SpellsBitmap (content : List ℕ) (offset value : ℕ) : Type 0 where
  pub bytes : List ℕ
  pub spelled : content ≡ number 8 offset ++ string bytes
  pub positive : IsNotNegative bytes
  pub value_is : value ≡ number_of bytes
  pub offset_fits : offset < 2 ^ 64
  pub within : (bit : ℕ) → bit_at value bit ≡ 1 → offset + bit < 2 ^ 64

-- the content of a subsection of a section of certificates
abbrev pub SubsectionContent : List ℕ → Subsection → Type 0
SubsectionContent content (Serials numbers) =
    (content ≡ numbers_text numbers) × AllByRecursion (λ n. n < 2 ^ 64) numbers
SubsectionContent content (Range min max) =
    (content ≡ number 8 min ++ number 8 max) × (min ≤ max) × (max < 2 ^ 64)
SubsectionContent content (Bitmap offset value) = SpellsBitmap content offset value
SubsectionContent content (Ids texts) = content ≡ strings texts
SubsectionContent content SubsectionExtension = SpellsFields extension_fields content

abbrev pub subsection_type : Subsection → ℕ
subsection_type (Serials numbers) = (subsection_row subsection_kinds.Serials).type_byte
subsection_type (Range min max) = (subsection_row subsection_kinds.Range).type_byte
subsection_type (Bitmap offset value) = (subsection_row subsection_kinds.Bitmap).type_byte
subsection_type (Ids texts) = (subsection_row subsection_kinds.Ids).type_byte
subsection_type SubsectionExtension = (subsection_row subsection_kinds.Extension).type_byte

-- a type byte, and the content as a string
pub record SpellsContent (type_byte : ℕ) (Content : List ℕ → Type 0) (text : List ℕ) : Type 0 where
  pub content : List ℕ
  pub spelled : text ≡ type_byte ∷ string content
  pub fits : length content < 2 ^ 32
  pub content_is : Content content

abbrev pub SpellsSubsection : List ℕ → Subsection → Type 0
SpellsSubsection text subsection =
    SpellsContent (subsection_type subsection) (λ content. SubsectionContent content subsection)
    text

-- the authority, a reserved string, and the subsections
pub record SpellsCertificates (content authority : List ℕ) (subsections : List Subsection)
    : Type 0 where
  pub values : List (List ℕ)
  pub body : List ℕ
  pub fields : BeginsWithTable authority_fields [] content values body
  pub authority_is : slice_index_or values 0 [] ≡ authority
  pub subsections_are : SpellsEach SpellsSubsection body subsections

-- strings that are all hashes of this size
abbrev pub SpellsHashes : ℕ → List ℕ → List (List ℕ) → Type 0
SpellsHashes size content hashes =
    (content ≡ strings hashes) × AllByRecursion (λ hash. length hash ≡ size) hashes

-- a signature's type byte, and its fields
abbrev pub SpellsSignature : List ℕ → Type 0
SpellsSignature text =
    (content : List ℕ) × (text ≡ signature_type ∷ content) × SpellsFields signature_fields content

-- a section that has a length
abbrev pub SpellsTyped : Section → (List ℕ → Type 0) → List ℕ → Type 0
SpellsTyped section Content text = SpellsContent (section_row section).type_byte Content text

abbrev pub SpellsSection : List ℕ → SpelledSection → Type 0
SpellsSection text (Certificates authority subsections) =
    SpellsTyped section_kinds.Certificates
    (λ content. SpellsCertificates content authority subsections) text
SpellsSection text (Keys blobs) =
    SpellsTyped section_kinds.Keys (λ content. content ≡ strings blobs) text
SpellsSection text (Sha1s hashes) =
    SpellsTyped section_kinds.Sha1s (λ content. SpellsHashes 20 content hashes) text
SpellsSection text (Sha256s hashes) =
    SpellsTyped section_kinds.Sha256s (λ content. SpellsHashes 32 content hashes) text
SpellsSection text Signature = SpellsSignature text
SpellsSection text Extension =
    SpellsTyped section_kinds.Extension (SpellsFields extension_fields) text

abbrev pub IsSignature : SpelledSection → Type 0
IsSignature Signature = Unit {0}
IsSignature _ = ⊥

-- no other section follows a signature
abbrev pub SignaturesLast : List SpelledSection → Type 0
SignaturesLast [] = Unit {0}
SignaturesLast (Signature ∷ sections) = AllByRecursion IsSignature sections
SignaturesLast (section ∷ sections) = SignaturesLast sections

-- The text is the fields of the header and then the sections, one after another. The flags and the
-- reserved string may have any value.
pub record Spells (text : List ℕ) (header : Header) (sections : List SpelledSection) : Type 0 where
  pub values : List (List ℕ)
  pub body : List ℕ
  pub fields : BeginsWithTable header_fields [] text values body
  pub header_is : header_of values ≡ header
  pub sections_are : SpellsEach SpellsSection body sections
  pub signatures_last : SignaturesLast sections
