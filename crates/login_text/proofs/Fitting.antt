-- A key or certificate that a login fits, and the query about the login.
use Rattle.std.proofs.Common.{◌≡◌, ℕ, ◌↔◌, List, [], ◌∷◌, Option, Some, None, ap, inl, inr, refl, subst, ⊎_elim}
use Rattle.std.specs.Prelude.{option_map}
use Rattle.std.proofs.Math.Logic.Iff as Iff
use Rattle.sha2.specs.Sha256.{sha256}
use Rattle.sha1.specs.Sha1.{sha1}
use Rattle.krl_types.specs.Entry.{Entry}
use Rattle.krl_types.specs.Naming.{IdOf, KeyOf, Name, SerialOf, Sha256Of, SomeNames}
use Rattle.krl_types.specs.Subject.{CertNames, Subject}
use Rattle.krl_entries.specs.Reasons.{OfName}
use Rattle.krl_entries.specs.Revoked.{CertRevoked, KeyNamed, Revoked, SomeNamesId, SomeNamesSerial}
use Rattle.krl_fingerprints.specs.Printed.{PrintsTo, name_print, printed}
use Rattle.krl_fingerprints.proofs.PrintedNames.{some_named}
use Rattle.login_lines.specs.Logins.{Reported, Signed}
use Rattle.login_text.specs.Asked.{Fits, FitsCert, HaveNoSha1, asked_by, cert_asked}

-- ---- names

named_so : (entries : List Entry) (source name : Name) → SomeNames entries source → name_print source ≡ Some name → SomeNames (printed entries) name
named_so entries source name named is = (some_named entries name).1 (record { source = source; named = named; printed = is })

key_found : (entries : List Entry) (blob print : List ℕ) → HaveNoSha1 entries → sha256 blob ≡ print → KeyNamed entries blob → KeyNamed (printed entries) print
key_found entries blob print none is named = subst (KeyNamed (printed entries)) is (elim named [
  | inl key ↦ inl (named_so entries (KeyOf blob) (KeyOf (sha256 blob)) key refl)
  | inr hash ↦ inr (inr (elim hash [
    | inl first ↦ absurd (none (sha1 blob) first)
    | inr last ↦ named_so entries (Sha256Of (sha256 blob)) (Sha256Of (sha256 (sha256 blob))) last refl
  ]))
])

-- a serial number under an authority that may have no bytes, and so be all authorities
serial_found : (entries : List Entry) (authority print : List ℕ) (serial : ℕ) → sha256 authority ≡ print → SomeNamesSerial entries authority serial → SomeNamesSerial (printed entries) print serial
serial_found entries [] print serial is named =
    let all : SomeNames entries (SerialOf [] serial) = ⊎_elim (λ h. h) (λ h. h) named in
    inr (named_so entries (SerialOf [] serial) (SerialOf [] serial) all refl)
serial_found entries (byte ∷ bytes) print serial is named = elim named [
  | inl own ↦ inl (named_so entries (SerialOf (byte ∷ bytes) serial) (SerialOf print serial) own (ap (λ (a : List ℕ). Some (SerialOf a serial)) is))
  | inr all ↦ inr (named_so entries (SerialOf [] serial) (SerialOf [] serial) all refl)
]

id_found : (entries : List Entry) (authority print id : List ℕ) → sha256 authority ≡ print → SomeNamesId entries authority id → SomeNamesId (printed entries) print id
id_found entries [] print id is named =
    let all : SomeNames entries (IdOf [] id) = ⊎_elim (λ h. h) (λ h. h) named in
    inr (named_so entries (IdOf [] id) (IdOf [] id) all refl)
id_found entries (byte ∷ bytes) print id is named = elim named [
  | inl own ↦ inl (named_so entries (IdOf (byte ∷ bytes) id) (IdOf print id) own (ap (λ (a : List ℕ). Some (IdOf a id)) is))
  | inr all ↦ inr (named_so entries (IdOf [] id) (IdOf [] id) all refl)
]

-- ---- the login

cert_found : (entries : List Entry) (signed : Option Signed) (id : List ℕ) (cert : Option CertNames) → HaveNoSha1 entries → FitsCert signed id cert → CertRevoked entries cert
    → CertRevoked (printed entries) (option_map (cert_asked id) signed)
cert_found entries signed id None none fits revoked = absurd revoked
cert_found entries None id (Some cert) none fits revoked = absurd fits
cert_found entries (Some signed) id (Some cert) none fits revoked = elim revoked [
  | inl key ↦ inl (key_found entries cert.authority signed.authority.sha256 none fits.0 key)
  | inr own ↦ inr (elim own [
    | inl named ↦ inl (subst (SomeNamesId (printed entries) signed.authority.sha256) fits.1.1 (id_found entries cert.authority signed.authority.sha256 cert.key_id fits.0 named))
    | inr numbered ↦
        inr (subst (SomeNamesSerial (printed entries) signed.authority.sha256) fits.1.0 (serial_found entries cert.authority signed.authority.sha256 cert.serial fits.0 numbered))
  ])
]

pub login_found : (entries : List Entry) (login : Reported) (id : List ℕ) (subject : Subject) → Fits login id subject → HaveNoSha1 entries → Revoked entries subject → Revoked (printed entries) (asked_by login id)
login_found entries login id subject fits none revoked = elim revoked [
  | inl key ↦ inl (key_found entries subject.plain login.key.sha256 none fits.plain key)
  | inr own ↦ inr (cert_found entries login.certificate id subject.cert none fits.cert own)
]

pub reason_named : (entries : List Entry) (name : Option Name) → OfName (SomeNames (printed entries)) name ↔ OfName (PrintsTo (SomeNames entries)) name
reason_named entries None = Iff.rfl
reason_named entries (Some name) = some_named entries name
