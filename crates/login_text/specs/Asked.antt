-- The query about a login, by fingerprints.
use Rattle.std.specs.Prelude.{◌≡◌, ℕ, List, Option, Some, None, option_map}
use Rattle.sha2.specs.Sha256.{sha256}
use Rattle.krl_types.specs.Entry.{Entry}
use Rattle.krl_types.specs.Naming.{Sha1Of, SomeNames}
use Rattle.krl_types.specs.Subject.{CertNames, Subject}
use Rattle.login_lines.specs.Logins.{Reported, Signed}

abbrev pub cert_asked : (id : List ℕ) → Signed → CertNames
cert_asked id signed =
    record { serial = signed.serial; key_id = id; authority = signed.authority.sha256 }

-- the key and the authority are given by their fingerprints, and the key ID is the decoded one
abbrev pub asked_by : Reported → (id : List ℕ) → Subject
asked_by login id =
    record { plain = login.key.sha256; cert = option_map (cert_asked id) login.certificate }

-- ---- the keys and certificates that the login may have been by

abbrev pub FitsCert : Option Signed → (id : List ℕ) → Option CertNames → Type 0
FitsCert None id None = Unit {0}
FitsCert None id (Some cert) = ⊥
FitsCert (Some signed) id None = ⊥
FitsCert (Some signed) id (Some cert) =
    (sha256 cert.authority ≡ signed.authority.sha256)
    × ((cert.serial ≡ signed.serial) × (cert.key_id ≡ id))

-- The key or certificate has the fingerprints, the serial number and the key ID of the login.
pub record Fits (login : Reported) (id : List ℕ) (subject : Subject) : Type 0 where
  pub plain : sha256 subject.plain ≡ login.key.sha256
  pub cert : FitsCert login.certificate id subject.cert

-- no entry is a SHA-1
abbrev pub HaveNoSha1 : List Entry → Type 0
HaveNoSha1 entries = (hash : List ℕ) → SomeNames entries (Sha1Of hash) → ⊥
