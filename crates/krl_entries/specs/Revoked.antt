-- Keys and certificates that a list revokes (ssh-keygen(1), KEY REVOCATION LISTS).
use Rattle.std.specs.Prelude.{◌⊎◌, ℕ, List, [], Option, Some, None}
use Rattle.sha1.specs.Sha1.{sha1}
use Rattle.sha2.specs.Sha256.{sha256}
use Rattle.krl_types.specs.Subject.{Subject, CertNames}
use Rattle.krl_types.specs.Entry.{Entry}
use Rattle.krl_types.specs.Naming.{IdOf, KeyOf, SerialOf, Sha1Of, Sha256Of, SomeNames}

-- some entry names the serial number, under the authority or under all authorities
abbrev pub SomeNamesSerial : List Entry → (authority : List ℕ) (serial : ℕ) → Type 0
SomeNamesSerial entries a s = SomeNames entries (SerialOf a s) ⊎ SomeNames entries (SerialOf [] s)

-- some entry names the key ID, under the authority or under all authorities
abbrev pub SomeNamesId : List Entry → (authority text : List ℕ) → Type 0
SomeNamesId entries a text = SomeNames entries (IdOf a text) ⊎ SomeNames entries (IdOf [] text)

-- some entry names the key, by its blob or by one of its hashes
abbrev pub KeyNamed : List Entry → (blob : List ℕ) → Type 0
KeyNamed entries blob =
    SomeNames entries (KeyOf blob)
    ⊎ (SomeNames entries (Sha1Of (sha1 blob)) ⊎ SomeNames entries (Sha256Of (sha256 blob)))

-- A certificate is revoked if an entry names its authority's key. It is also revoked if an entry
-- under its authority, or under all authorities, names its key ID or its serial number.
abbrev pub CertRevoked : List Entry → Option CertNames → Type 0
CertRevoked entries None = ⊥
CertRevoked entries (Some cert) =
    KeyNamed entries cert.authority
    ⊎ (SomeNamesId entries cert.authority cert.key_id
    ⊎ SomeNamesSerial entries cert.authority cert.serial)

-- a key is revoked by its plain blob or a hash of it, and a certificate also by its names
abbrev pub Revoked : List Entry → Subject → Type 0
Revoked entries subject = KeyNamed entries subject.plain ⊎ CertRevoked entries subject.cert
