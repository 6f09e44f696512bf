-- The first fault of a certificate is never an unknown type, and that of its key is neither an
-- unknown type nor bytes after the key.
use Rattle.std.proofs.Common.{[], ◌++◌, ◌∙◌, ◌∷◌, ◌≡◌, ap, Bool, Err, false, inl, inr, length, List, map, None, Ok, Option, refl, Result, Some, subst, sym, true, ℕ}
use Rattle.std.specs.Prelude.{◌==◌, ◌&&◌, if◌then◌else◌, codes, slice_index}
use Rattle.std.specs.List.{AllByRecursion}
use Rattle.std.specs.Option.{ok_or}
use Rattle.std.specs.Result.{result_err}
use Rattle.std.specs.Str.{bytes_eq}
use Rattle.ssh_wire.specs.Reading.{◌>>=◌, in_fault, string_at}
use Rattle.ssh_wire.specs.Rows.{BeginsWithPart, Fails, Row, Text, fault_unless, passes, row}
use Rattle.ssh_wire.specs.Wire.{BeginsWith}
use Rattle.ssh_wire.specs.declared.fault.WireFault.{WireFault}
use Rattle.ssh_wire.proofs.Fields.{string_again, string_read}
use Rattle.ssh_key.specs.FirstFault.{IsFieldsFault, in_field, long_fields}
use Rattle.ssh_key.specs.KeyReading.{key_at}
use Rattle.ssh_key.specs.Kind.{application_field, begins_with_4, certificate_name, curve_field, fields_of, has_zero, kind_certified, point_field, positive_field, sized_field}
use Rattle.ssh_key.specs.declared.fault.KeyFault.{KeyFault}
use Rattle.ssh_key.specs.declared.fault.KeyFault.TheVariants as keys
use Rattle.ssh_key.specs.declared.kind.Kind.{Kind}
use Rattle.ssh_key.specs.declared.kind.Kind.TheVariants.{Dsa, Ecdsa256, Ecdsa384, Ecdsa521, EcdsaSk, Ed25519, Ed25519Sk, Rsa}
use Rattle.ssh_cert.specs.Field.{Bytes, Count, KeyBlob, Meaning, Options, Principals, RoleNumber, Signature, algorithm_in, authority_in, closing_fields, closing_table, cut_short, kind_in, opening_fields, options_in, principals_in, role_in, role_of, row_of}
use Rattle.ssh_cert.specs.Options.{options_of}
use Rattle.ssh_cert.specs.Strings.{strings_of}
use Rattle.ssh_cert.specs.FirstFault.{IsFirstCertFault, after_fields, in_closing, in_key, in_opening}
use Rattle.ssh_cert.specs.SubjectReading.{HasCertificateName}
use Rattle.ssh_cert.specs.declared.fault.CertFault.{CertFault}
use Rattle.ssh_cert.specs.declared.fault.CertFault.TheVariants as certs

-- ---- rows of a table

abbrev Judges : {F : Type 0} → (F → Type 0) → Row F → Type 0
Judges {F} P expected = (before : List (List ℕ)) (value : List ℕ) (fault : F) → expected.judged before value ≡ Some fault → P fault

fails_as : {F : Type 0} (P : F → Type 0) (unread : WireFault → F) (rows : List (Row F)) (before : List (List ℕ)) (bytes : List ℕ) (fault : F) → ((why : WireFault) → P (unread why)) → AllByRecursion (Judges P) rows
    → Fails unread rows before bytes fault → P fault
fails_as P unread [] before bytes fault cut each fails = absurd fails
fails_as P unread (expected ∷ rows) before bytes fault cut each (inl (inl (why, is, same))) = subst P (sym same) (cut why)
fails_as P unread (expected ∷ rows) before bytes fault cut each (inl (inr (value, left, begins, judged))) = each.0 before value fault judged
fails_as P unread (expected ∷ rows) before bytes fault cut each (inr (value, left, begins, passed, later)) = fails_as P unread rows (before ++ value ∷ []) left fault cut each.1 later

never_passes : {F : Type 0} (P : F → Type 0) (fault : F) → None ≡ Some fault → P fault
never_passes P fault e = absurd cc

some_is : {F : Type 0} (P : F → Type 0) (why fault : F) → P why → Some why ≡ Some fault → P fault
some_is P why fault is e = let same : why ≡ fault = cc in subst P same is

if_bad : {F : Type 0} (P : F → Type 0) (bad : Bool) (why fault : F) → P why → (if bad then Some why else None) ≡ Some fault → P fault
if_bad P true why fault is e = some_is P why fault is e
if_bad P false why fault is e = never_passes P fault e

unless_good : {F : Type 0} (P : F → Type 0) (good : Bool) (why fault : F) → P why → fault_unless why good ≡ Some fault → P fault
unless_good P true why fault is e = never_passes P fault e
unless_good P false why fault is e = some_is P why fault is e

-- ---- public fields

abbrev pub OfFields : KeyFault → Type 0
OfFields keys.UnknownType = ⊥
OfFields keys.Trailing = ⊥
OfFields _ = Unit {0}

positive : Judges OfFields positive_field
positive before value fault e = if_bad OfFields (length value == 0) keys.Number fault tt e

curve : (name : List ℕ) → Judges OfFields (curve_field name)
curve name before value fault e = unless_good OfFields (bytes_eq value name) keys.Curve fault tt e

point : (size : ℕ) → Judges OfFields (point_field size)
point size before value fault e = unless_good OfFields (length value == size && begins_with_4 value) keys.Point fault tt e

sized : (size : ℕ) → Judges OfFields (sized_field size)
sized size before value fault e = unless_good OfFields (length value == size) keys.Length fault tt e

application : Judges OfFields application_field
application before value fault e = if_bad OfFields (has_zero value) keys.Length fault tt e

each_field : (kind : Kind) → AllByRecursion (Judges OfFields) (fields_of kind)
each_field Rsa = (positive, (positive, tt))
each_field Dsa = (positive, (positive, (positive, (positive, tt))))
each_field Ecdsa256 = (curve (codes "nistp256"), (point 65, tt))
each_field Ecdsa384 = (curve (codes "nistp384"), (point 97, tt))
each_field Ecdsa521 = (curve (codes "nistp521"), (point 133, tt))
each_field Ed25519 = (sized 32, tt)
each_field EcdsaSk = (curve (codes "nistp256"), (point 65, (application, tt)))
each_field Ed25519Sk = (sized 32, (application, tt))

of_fields : (kind : Kind) (bytes : List ℕ) (fault : KeyFault) → IsFieldsFault kind bytes fault → OfFields fault
of_fields kind bytes fault (in_field fails) = fails_as OfFields keys.Wire (fields_of kind) [] bytes fault (λ (why : WireFault). tt) (each_field kind) fails
of_fields kind bytes fault (long_fields values rest leads long is) = subst OfFields (sym is) tt

-- ---- a certificate

abbrev pub OfCert : CertFault → Type 0
OfCert certs.UnknownType = ⊥
OfCert (certs.Key fault) = OfFields fault
OfCert _ = Unit {0}

if_none : {A : Type 0} (read : Option A) (why fault : CertFault) → OfCert why → result_err (ok_or read why) ≡ Some fault → OfCert fault
if_none None why fault is e = some_is OfCert why fault is e
if_none (Some x) why fault is e = never_passes OfCert fault e

if_refused : {A E : Type 0} (read : Result A E) (number : E → CertFault) (fault : CertFault) → ((why : E) → OfCert (number why)) → result_err (in_fault number read) ≡ Some fault → OfCert fault
if_refused (Ok x) number fault is e = never_passes OfCert fault e
if_refused (Err why) number fault is e = some_is OfCert (number why) fault (is why) e

if_no_name : (read : Result (List ℕ × List ℕ) WireFault) (fault : CertFault) → result_err (in_fault (λ why. certs.Signature) read >>= λ first. Ok first.0) ≡ Some fault → OfCert fault
if_no_name (Ok x) fault e = never_passes OfCert fault e
if_no_name (Err why) fault e = some_is OfCert certs.Signature fault tt e

of_meaning : (meaning : Meaning) → Judges OfCert (row_of meaning)
unfolding role_in principals_in options_in authority_in algorithm_in
of_meaning Count before value fault e = never_passes OfCert fault e
of_meaning Bytes before value fault e = never_passes OfCert fault e
of_meaning RoleNumber before value fault e = if_none (role_of (slice_index value 0)) certs.CertType fault tt e
of_meaning Principals before value fault e = if_none (strings_of value) certs.Principals fault tt e
of_meaning Options before value fault e = if_none (options_of value) certs.Options fault tt e
of_meaning KeyBlob before value fault e = if_refused (key_at value) certs.Authority fault (λ (why : KeyFault). tt) e
of_meaning Signature before value fault e = if_no_name (string_at value) fault e

each_meaning : (table : List Meaning) → AllByRecursion (Judges OfCert) (map row_of table)
each_meaning [] = tt
each_meaning (meaning ∷ table) = (of_meaning meaning, each_meaning table)

-- the type that was known before
known : (kind : Kind) → result_err (kind_in (certificate_name kind)) ≡ None
unfolding kind_in kind_certified
known Rsa = refl
known Dsa = refl
known Ecdsa256 = refl
known Ecdsa384 = refl
known Ecdsa521 = refl
known Ed25519 = refl
known EcdsaSk = refl
known Ed25519Sk = refl

abbrev name_in : Result (List ℕ × List ℕ) WireFault → List ℕ
name_in (Ok (name, rest)) = name
name_in (Err fault) = []

-- the first string is that name
same_name : (blob name value left : List ℕ) → BeginsWith blob name → BeginsWithPart Text blob value left → value ≡ name
same_name blob name value left begins part = ap name_in (sym (string_again value left part.is_part) ∙ ap string_at (sym part.spelled) ∙ string_read blob name begins)

opening : (blob : List ℕ) (fault : CertFault) → HasCertificateName blob → Fails cut_short opening_fields [] blob fault → OfCert fault
opening blob fault named (inl (inl (why, is, same))) = subst OfCert (sym same) tt
opening blob fault named (inl (inr (value, left, begins, judged))) =
    never_passes OfCert fault (sym (ap (λ (name : List ℕ). result_err (kind_in name)) (same_name blob (certificate_name named.kind) value left named.begins begins) ∙ known named.kind) ∙ judged)
opening blob fault named (inr (value, left, begins, passed, later)) =
    fails_as OfCert cut_short (row Text passes ∷ []) ([] ++ value ∷ []) left fault (λ (why : WireFault). tt) ((λ before value fault e. never_passes OfCert fault e), tt) later

pub of_cert : (blob : List ℕ) (fault : CertFault) → HasCertificateName blob → IsFirstCertFault blob fault → OfCert fault
of_cert blob fault named (in_opening fails) = opening blob fault named fails
of_cert blob fault named (in_key values fields why leads fails is) = subst OfCert (sym is) (of_fields _ fields why fails)
of_cert blob fault named (in_closing key rest opens fails) = fails_as OfCert cut_short closing_fields [] rest fault (λ (why : WireFault). tt) (each_meaning closing_table) fails
of_cert blob fault named (after_fields key bytes values rest opens leads more is) = subst OfCert (sym is) tt
