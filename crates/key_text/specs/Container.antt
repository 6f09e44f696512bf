-- The private container of one key that is not encrypted (OpenSSH's PROTOCOL.key).
use Rattle.std.specs.Prelude.{◌≡◌, ◌≢◌, ℕ, ◌==◌, ◌&&◌, ◌<◌, Bool, List, [], ◌∷◌, ◌++◌, codes}
use Rattle.std.specs.Prelude.{length, slice_index, Option, Some, None, Result, Ok, Err}
use Rattle.std.specs.List.{range_with_len}
use Rattle.std.specs.Str.{bytes_eq}
use Rattle.ssh_wire.specs.Wire.{IsBytes}
use Rattle.ssh_wire.specs.Reading.{string_at}
use Rattle.ssh_wire.specs.Rows.{BeginsWithPart, BeginsWithTable, Fails, Magnitude, Number, Row}
use Rattle.ssh_wire.specs.Rows.{Text, fault_unless, passes, row, table_text}
use Rattle.ssh_wire.specs.declared.fault.WireFault.{WireFault}
use Rattle.ssh_key.specs.Key.{IsKey, PublicKey}
use Rattle.ssh_key.specs.KeyReading.{key_at}
use Rattle.ssh_key.specs.Kind.{fields_of, type_name}
use Rattle.ssh_key.specs.declared.fault.KeyFault.{KeyFault}
use Rattle.ssh_key.specs.declared.fault.KeyFault.TheVariants as keys
use Rattle.ssh_key.specs.declared.kind.Kind.{Kind}
use Rattle.ssh_key.specs.declared.kind.Kind.TheVariants.{Rsa, Dsa, Ecdsa256, Ecdsa384, Ecdsa521}
use Rattle.ssh_key.specs.declared.kind.Kind.TheVariants.{Ed25519, EcdsaSk, Ed25519Sk}
use Rattle.key_text.specs.Armour.{IsArmour}
use Rattle.key_text.specs.KeyLine.{base64}
use Rattle.key_text.specs.declared.private_fault.PrivateFault.{PrivateFault}
use Rattle.key_text.specs.declared.private_fault.PrivateFault.TheVariants as faults

-- the name of the format, and a zero byte
unfoldable pub magic : List ℕ
magic = codes "openssh-key-v1" ++ 0 ∷ []

-- ---- the checks

-- cipher, derivation and options of a container that is not encrypted
abbrev pub is_plain : List ℕ → List ℕ → List ℕ → Bool
is_plain cipher derivation options =
    bytes_eq cipher (codes "none")
    && (bytes_eq derivation (codes "none") && length options == 0)

abbrev pub plain : List (List ℕ) → List ℕ → Option PrivateFault
plain (cipher ∷ derivation ∷ []) options =
    fault_unless faults.Encrypted (is_plain cipher derivation options)
plain before options = Some faults.Encrypted

abbrev pub one_key : List (List ℕ) → List ℕ → Option PrivateFault
one_key before count = fault_unless faults.KeyCount (slice_index count 0 == 1)

abbrev pub why_no_key : Result PublicKey KeyFault → Option PrivateFault
why_no_key (Ok key) = None
why_no_key (Err fault) = Some (faults.Key fault)

abbrev pub public_key : List (List ℕ) → List ℕ → Option PrivateFault
public_key before blob = why_no_key (key_at blob)

abbrev pub same_check : List (List ℕ) → List ℕ → Option PrivateFault
same_check (check ∷ []) again =
    fault_unless faults.Check (slice_index check 0 == slice_index again 0)
same_check before again = Some faults.Check

abbrev pub same_type : Kind → List (List ℕ) → List ℕ → Option PrivateFault
same_type kind before name = fault_unless faults.PublicDiffers (bytes_eq name (type_name kind))

-- the private part of an Ed25519 key
abbrev pub of_64_bytes : List (List ℕ) → List ℕ → Option PrivateFault
of_64_bytes before secret = fault_unless (faults.Key keys.Length) (length secret == 64)

-- ---- the rows

abbrev pub outer : List (Row PrivateFault)
outer = row Text passes ∷ row Text passes ∷ row Text plain
    ∷ row (Number 4) one_key
    ∷ row Text public_key
    ∷ row Text passes
    ∷ []

abbrev pub beginning : Kind → List (Row PrivateFault)
beginning kind =
    row (Number 4) passes ∷ row (Number 4) same_check ∷ row Text (same_type kind) ∷ []

abbrev pub secrets : Kind → List (Row PrivateFault)
secrets Rsa =
    row Magnitude passes ∷ row Magnitude passes ∷ row Magnitude passes
    ∷ row Magnitude passes ∷ row Magnitude passes ∷ row Magnitude passes ∷ []
secrets Dsa =
    row Magnitude passes ∷ row Magnitude passes ∷ row Magnitude passes
    ∷ row Magnitude passes ∷ row Magnitude passes ∷ []
secrets Ecdsa256 = row Text passes ∷ row Text passes ∷ row Magnitude passes ∷ []
secrets Ecdsa384 = row Text passes ∷ row Text passes ∷ row Magnitude passes ∷ []
secrets Ecdsa521 = row Text passes ∷ row Text passes ∷ row Magnitude passes ∷ []
secrets Ed25519 = row Text passes ∷ row Text of_64_bytes ∷ []
secrets EcdsaSk =
    row Text passes ∷ row Text passes ∷ row Text passes
    ∷ row (Number 1) passes ∷ row Text passes ∷ row Text passes ∷ []
secrets Ed25519Sk =
    row Text passes ∷ row Text passes
    ∷ row (Number 1) passes ∷ row Text passes ∷ row Text passes ∷ []

-- The public fields among them, in the order of the blob. The modulus of an RSA key comes first.
abbrev pub public_values : Kind → List (List ℕ) → List (List ℕ)
public_values Rsa (n ∷ e ∷ others) = e ∷ n ∷ []
public_values Dsa (p ∷ q ∷ g ∷ y ∷ others) = p ∷ q ∷ g ∷ y ∷ []
public_values Ecdsa256 (curve ∷ point ∷ others) = curve ∷ point ∷ []
public_values Ecdsa384 (curve ∷ point ∷ others) = curve ∷ point ∷ []
public_values Ecdsa521 (curve ∷ point ∷ others) = curve ∷ point ∷ []
public_values Ed25519 (public ∷ others) = public ∷ []
public_values EcdsaSk (curve ∷ point ∷ application ∷ others) = curve ∷ point ∷ application ∷ []
public_values Ed25519Sk (public ∷ application ∷ others) = public ∷ application ∷ []
public_values kind values = []

-- the public fields that these values spell
abbrev pub public_text : Kind → List (List ℕ) → List ℕ
public_text kind values = table_text (fields_of kind) (public_values kind values)

-- ---- the container

-- the longest padding
unfoldable pub all_padding : List ℕ
all_padding = range_with_len 1 254

-- The text contains these bytes: their base64 between the lines of the armour.
pub record Holds (text bytes : List ℕ) : Type 0 where
  pub body : List ℕ
  pub armour : IsArmour text body
  pub encoded : body ≡ base64 bytes
  pub are_bytes : IsBytes bytes

-- The list's check words and type, and the fields of the kind. The bytes after them are the rest.
pub record Opens (key : PublicKey) (list : List ℕ) (values : List (List ℕ)) (rest : List ℕ) : Type 0
  where
    pub head : List (List ℕ)
    pub fields : List ℕ
    pub begun : BeginsWithTable (beginning key.kind) [] list head fields
    pub read : BeginsWithTable (secrets key.kind) [] fields values rest

-- The private list of the key: its fields have the public ones of the key, and after the comment
-- comes the padding, a front of the bytes 1, 2, 3 and so on up to 254.
pub record IsPrivateList (key : PublicKey) (list comment : List ℕ) : Type 0 where
  pub values : List (List ℕ)
  pub rest : List ℕ
  pub opens : Opens key list values rest
  pub padding : List ℕ
  pub ended : BeginsWithPart Text rest comment padding
  pub same : public_text key.kind values ≡ key.fields
  pub unused : List ℕ
  pub padded : all_padding ≡ padding ++ unused

-- The bytes after the name of the format contain this blob and this private list.
abbrev pub HasParts : List ℕ → List ℕ → List ℕ → Type 0
HasParts inside blob list =
    (cipher : List ℕ) × (kdf : List ℕ) × (options : List ℕ) × (count : List ℕ)
    × BeginsWithTable outer [] inside (cipher ∷ kdf ∷ options ∷ count ∷ blob ∷ list ∷ []) []

-- The text is the container of the key of this blob, with this comment.
pub record IsContainer (text blob comment : List ℕ) : Type 0 where
  pub inside : List ℕ
  pub holds : Holds text (magic ++ inside)
  pub list : List ℕ
  pub parts : HasParts inside blob list
  pub key : PublicKey
  pub is_key : IsKey blob key
  pub secret : IsPrivateList key list comment

-- ---- the first fault

pub data IsListFault (key : PublicKey) (list : List ℕ) (fault : PrivateFault) : Type 0 where
  in_beginning : Fails faults.Wire (beginning key.kind) [] list fault
      → IsListFault key list fault
  in_secrets : (head : List (List ℕ)) (fields : List ℕ)
      → BeginsWithTable (beginning key.kind) [] list head fields
      → Fails faults.Wire (secrets key.kind) [] fields fault
      → IsListFault key list fault
  in_comment : (values : List (List ℕ)) (rest : List ℕ) (why : WireFault)
      → Opens key list values rest → string_at rest ≡ Err why → fault ≡ faults.Wire why
      → IsListFault key list fault
  other_public : (values : List (List ℕ)) (rest comment padding : List ℕ)
      → Opens key list values rest → BeginsWithPart Text rest comment padding
      → public_text key.kind values ≢ key.fields → fault ≡ faults.PublicDiffers
      → IsListFault key list fault
  other_padding : (values : List (List ℕ)) (rest comment padding : List ℕ)
      → Opens key list values rest → BeginsWithPart Text rest comment padding
      → public_text key.kind values ≡ key.fields
      → ((unused : List ℕ) → all_padding ≢ padding ++ unused) → fault ≡ faults.Padding
      → IsListFault key list fault

-- The first fault of a text that is not a container. The text itself never has the fault
-- `NoMemory`.
pub data IsPrivateFault (text : List ℕ) (fault : PrivateFault) : Type 0 where
  no_armour : ((body : List ℕ) → ¬ IsArmour text body) → fault ≡ faults.Armour
      → IsPrivateFault text fault
  no_base64 : (body : List ℕ) → IsArmour text body
      → ((bytes : List ℕ) → IsBytes bytes → base64 bytes ≢ body) → fault ≡ faults.Base64
      → IsPrivateFault text fault
  no_magic : (bytes : List ℕ) → Holds text bytes → ((rest : List ℕ) → bytes ≢ magic ++ rest)
      → fault ≡ faults.Magic → IsPrivateFault text fault
  in_parts : (inside : List ℕ) → Holds text (magic ++ inside)
      → Fails faults.Wire outer [] inside fault
      → IsPrivateFault text fault
  after_parts : (inside rest : List ℕ) (values : List (List ℕ)) → Holds text (magic ++ inside)
      → BeginsWithTable outer [] inside values rest → 0 < length rest → fault ≡ faults.Trailing
      → IsPrivateFault text fault
  in_list : (inside blob list : List ℕ) (key : PublicKey) → Holds text (magic ++ inside)
      → HasParts inside blob list → IsKey blob key → IsListFault key list fault
      → IsPrivateFault text fault

-- The fault that is reported for a text: its own, or, if it is armoured, `NoMemory`.
abbrev pub IsReportedPrivateFault : List ℕ → PrivateFault → Type 0
IsReportedPrivateFault text faults.NoMemory = (body : List ℕ) × IsArmour text body
IsReportedPrivateFault text fault = IsPrivateFault text fault
