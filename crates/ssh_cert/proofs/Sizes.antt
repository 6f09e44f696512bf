-- A subject has no more bytes than its blob.
use Rattle.std.proofs.Common.{◌≡◌, ℕ, ◌+◌, List, ◌++◌, length, ap, ◌∙◌, arith}
use Rattle.std.proofs.lemmas.List.{length-append}
use Rattle.ssh_wire.specs.Wire.{string}
use Rattle.ssh_wire.proofs.Fields.{length-string}
use Rattle.ssh_wire.proofs.RowLaws.{table_is_text, length-table, table_length}
use Rattle.ssh_key.specs.Kind.{certificate_name, type_name}
use Rattle.ssh_key.proofs.Sizes.{key_room, name_room}
use Rattle.krl_types.specs.Subject.{Subject}
use Rattle.ssh_cert.specs.AnyKey.{IsReadAs, asked_of}
use Rattle.ssh_cert.specs.declared.any_key.AnyKey.{AnyKey}
use Rattle.ssh_cert.specs.declared.any_key.AnyKey.TheVariants.{Plain, Certified}
use Rattle.ssh_cert.specs.Cert.{Cert, IsCertificate, texts_of}
use Rattle.ssh_cert.specs.Field.{closing_fields, closing_table}
use Rattle.ssh_cert.specs.Sizes.{IsWithinBlob}
use Rattle.ssh_cert.specs.SubjectReading.{IsSubject, plain_key, certified, of_certificate}
use Rattle.ssh_cert.proofs.Certs.{opening_spelled}

-- ---- certificates

certificate_room : (blob : List ℕ) (certificate : Cert) → IsCertificate blob certificate → IsWithinBlob blob (of_certificate certificate)
certificate_room blob certificate is =
    let kind = certificate.key.kind in
    let name : List ℕ = string (certificate_name kind) in
    let nonce : List ℕ = string certificate.nonce in
    let fields : List ℕ = certificate.key.fields in
    let values : List (List ℕ) = texts_of closing_table is.values in
    let opening : length blob ≡ length name + (length nonce + length is.fields) =
    ap length (opening_spelled blob (certificate_name kind) certificate.nonce is.fields is.opening) ∙ omega (arith, length-append name (nonce ++ is.fields), length-append nonce is.fields) in
    let public : length is.fields ≡ length fields + length is.rest = ap length is.public.spelled ∙ length-append fields is.rest in
    let closing : length is.rest ≡ table_length closing_fields values = ap length (table_is_text closing_fields is.rest values is.closing).0 ∙ length-table closing_fields values in
    let first = length-string (certificate_name kind) in
    let id = ap (λ (c : Cert). length c.key_id) is.same in
    let authority = ap (λ (c : Cert). length c.authority) is.same in
    record {
      asked_is = omega (arith, opening, public, closing, first, id, authority);
      together = omega (arith, opening, public, closing, first, id, authority, (name_room kind).1, length-append (string (type_name kind)) fields, length-string (type_name kind));
      least = omega (arith, opening, public, closing, first, id, authority);
    }

-- ---- subjects

-- A subject is no longer than its blob.
pub asked_room : (blob : List ℕ) (asked : Subject) → IsSubject blob asked → IsWithinBlob blob asked
asked_room blob asked (plain_key key is same) =
    rw same (record { asked_is = omega arith; together = omega arith; least = key_room blob key is })
asked_room blob asked (certified certificate is same) = rw same (certificate_room blob certificate is)

-- The same of what was read of a blob.
pub read_room : (blob : List ℕ) (any : AnyKey) → IsReadAs blob any → IsWithinBlob blob (asked_of any)
read_room blob (Plain key) read =
    let same = ap length read.spelled.spelled in
    record { asked_is = omega (arith, same); together = omega (arith, same); least = key_room blob key read.spelled }
read_room blob (Certified certificate) read = certificate_room blob certificate read.spelled
