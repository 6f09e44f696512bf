-- A truncated certificate has the fault of a truncated field.
use Rattle.std.proofs.Common.{◌≡◌, ℕ, ◌-◌, ◌<◌, List, [], ◌++◌, length, take, refl, ap, subst, ◌∙◌, arith, inl, inr}
use Rattle.std.proofs.lemmas.Bool.{cases_lt}
use Rattle.std.proofs.lemmas.List.{length-append, take-append-le, take_at}
use Rattle.ssh_wire.specs.declared.fault.WireFault.TheVariants.{Short}
use Rattle.ssh_wire.specs.Rows.{BeginsWithTable}
use Rattle.ssh_wire.proofs.TruncatedFields.{take-after}
use Rattle.ssh_wire.proofs.RowLaws.{table_front, table_more, table_cut}
use Rattle.ssh_key.specs.declared.fault.KeyFault.TheVariants as keys
use Rattle.ssh_key.specs.FirstFault.{IsFieldsFault}
use Rattle.ssh_key.specs.Key.{BeginsWithFields}
use Rattle.ssh_key.proofs.TruncatedBlobs.{public_cut}
use Rattle.ssh_cert.specs.declared.fault.CertFault.TheVariants as faults
use Rattle.ssh_cert.specs.Cert.{Cert, IsCertificate, opening_values, texts_of}
use Rattle.ssh_cert.specs.CertReading.{kind_of}
use Rattle.ssh_cert.specs.Field.{closing_fields, closing_table, cut_short, opening_fields}
use Rattle.ssh_cert.specs.FirstFault.{in_closing, in_key, in_opening}
use Rattle.ssh_cert.specs.Laws.{HasCutFault, IsCut}
use Rattle.ssh_cert.proofs.Certs.{kind_is}

-- the first fields, and then only some of the bytes after them
cut_fields : (blob front : List ℕ) (c : Cert) (n : ℕ) (is : IsCertificate blob c) → n < length is.fields → BeginsWithTable opening_fields [] front (opening_values c) (take n is.fields) → HasCutFault front
cut_fields blob front c n is lt opening =
    let public : List ℕ = c.key.fields in
    let kind : c.key.kind ≡ kind_of (opening_values c) = kind_is c in
    let parts = is.public.spelled in
    elim (cases_lt n (length public)) [
      | inl within ↦
          let same : take n is.fields ≡ take n public = ap (take n) parts ∙ take-append-le n public is.rest (omega arith) in
          let fault : IsFieldsFault c.key.kind (take n public) (keys.Wire Short) = public_cut c.key n is.public.is_key within in
          record { fault = faults.Key (keys.Wire Short); first = in_key (opening_values c) (take n is.fields) (keys.Wire Short) opening (rw (← kind, same) fault) refl; cut = tt }
      | inr after ↦
          let m : ℕ = n - length public in
          let left : take n is.fields ≡ public ++ take m is.rest = ap (take n) parts ∙ take-after public is.rest n after in
          let begins : BeginsWithFields (take n is.fields) c.key (take m is.rest) = record { is_key = is.public.is_key; spelled = left } in
          let fewer : m < length is.rest = omega (arith, ap length parts, length-append public is.rest) in
          record {
            fault = faults.Wire;
            first =
                in_closing c.key (take m is.rest) (record { values = opening_values c; fields = take n is.fields; opening = opening; kind = kind; public = begins })
                (table_cut cut_short closing_fields [] is.rest (texts_of closing_table is.values) m is.closing fewer);
            cut = tt;
          }
    ]

cut_after : (blob : List ℕ) (n : ℕ) (c : Cert) → IsCertificate blob c → n < length blob → HasCutFault (take n blob)
cut_after blob n c is lt =
    let front = table_front opening_fields [] blob (opening_values c) is.fields is.opening in
    let text : List ℕ = front.0 in
    elim (cases_lt n (length text)) [
      | inl within ↦
          let same : take n blob ≡ take n text = ap (take n) front.1 ∙ take-append-le n text is.fields (omega arith) in
          record { fault = faults.Wire; first = in_opening (rw same (table_cut cut_short opening_fields [] text (opening_values c) n front.2 within)); cut = tt }
      | inr after ↦
          let left : List ℕ = take (n - length text) is.fields in
          let same : take n blob ≡ text ++ left = ap (take n) front.1 ∙ take-after text is.fields n after in
          rw same (cut_fields blob (text ++ left) c (n - length text) is (omega (arith, ap length front.1, length-append text is.fields)) (table_more opening_fields [] text (opening_values c) [] left front.2))
    ]

pub certificate_cut : (blob front : List ℕ) (c : Cert) → IsCertificate blob c → IsCut front blob → HasCutFault front
certificate_cut blob front c is cut =
    let same : take (length front) blob ≡ front = ap (take (length front)) cut.parts ∙ take_at front cut.missing (length front) refl in
    subst HasCutFault same (cut_after blob (length front) c is (omega (arith, cut.some, ap length cut.parts, length-append front cut.missing)))
