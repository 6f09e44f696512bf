-- Reading a printed SHA-256 fingerprint: the digest that it names, or its first fault.
use Rattle.std.specs.Prelude.{◌≡◌, ◌≢◌, ℕ, ◌==◌, List, ◌++◌, length, drop, codes, nat_eq, Result}
use Rattle.std.specs.Prelude.{Ok, Err, if◌then◌else◌}
use Rattle.std.specs.List.{starts_with}
use Rattle.base64.specs.Engines.{standard_no_pad}
use Rattle.base64.specs.GeneralPurpose.{decode_of}
use Rattle.base64.specs.declared.decode.DecodeError.{DecodeError}
use Rattle.ssh_wire.specs.Wire.{IsBytes}
use Rattle.key_text.specs.Fingerprints.{unpadded}
use Rattle.key_text.specs.declared.fingerprint_fault.FingerprintFault.{FingerprintFault}
use Rattle.key_text.specs.declared.fingerprint_fault.FingerprintFault.TheVariants.{Prefix, Base64}
use Rattle.key_text.specs.declared.fingerprint_fault.FingerprintFault.TheVariants.{Length, NoMemory}

abbrev pub sha256_prefix : List ℕ
sha256_prefix = codes "SHA256:"

-- the prefix, and the base64 of these bytes, without padding
pub record Encodes (text bytes : List ℕ) : Type 0 where
  pub spelled : text ≡ sha256_prefix ++ unpadded bytes
  pub are_bytes : IsBytes bytes

-- The text is the fingerprint with this digest.
pub record IsFingerprint (text digest : List ℕ) : Type 0 where
  pub encodes : Encodes text digest
  pub size : length digest ≡ 32

-- The text has the prefix, and the rest is not the base64 of any bytes.
pub record HasOtherBase64 (text : List ℕ) : Type 0 where
  pub rest : List ℕ
  pub prefixed : text ≡ sha256_prefix ++ rest
  pub none : (bytes : List ℕ) → IsBytes bytes → unpadded bytes ≢ rest

-- The fault of a text. The text itself never has the fault `NoMemory`.
abbrev pub IsFingerprintFault : List ℕ → FingerprintFault → Type 0
IsFingerprintFault text Prefix = (rest : List ℕ) → text ≢ sha256_prefix ++ rest
IsFingerprintFault text Base64 = HasOtherBase64 text
IsFingerprintFault text Length = (bytes : List ℕ) × Encodes text bytes × (length bytes ≢ 32)
IsFingerprintFault text NoMemory = ⊥

abbrev pub sized : Result (List ℕ) DecodeError → Result (List ℕ) FingerprintFault
sized (Err error) = Err Base64
sized (Ok bytes) = if length bytes == 32 then Ok bytes else Err Length

-- from left to right, with the first fault
unfoldable pub fingerprint_at : List ℕ → Result (List ℕ) FingerprintFault
fingerprint_at text =
    if starts_with nat_eq text sha256_prefix
    then sized (decode_of standard_no_pad (drop 7 text)) else Err Prefix

-- A function returned what reading gives, or `NoMemory`. If the text does not have the prefix,
-- nothing was allocated.
abbrev pub GivesDigest : Result (List ℕ) FingerprintFault → Result (List ℕ) FingerprintFault
    → Type 0
GivesDigest (Ok digest) read = read ≡ Ok digest
GivesDigest (Err NoMemory) read = read ≢ Err Prefix
GivesDigest (Err fault) read = read ≡ Err fault
