-- A blob that is truncated has the fault of a part that is short.
use Rattle.std.proofs.Common.{◌≡◌, ℕ, ◌+◌, ◌-◌, ◌<◌, ◌≤◌, List, [], length, take, refl, ap, ◌∙◌, arith, inl, inr}
use Rattle.std.proofs.lemmas.Bool.{cases_lt}
use Rattle.std.proofs.lemmas.List.{length-append, length-take}
use Rattle.ssh_wire.specs.declared.fault.WireFault.TheVariants.{Short}
use Rattle.ssh_wire.specs.Rows.{Text}
use Rattle.ssh_wire.specs.Wire.{string}
use Rattle.ssh_wire.proofs.TruncatedFields.{take-after}
use Rattle.ssh_wire.proofs.RowLaws.{part_cut, table_cut}
use Rattle.ssh_key.specs.declared.fault.KeyFault.TheVariants.{Wire}
use Rattle.ssh_key.specs.Kind.{fields_of, type_name}
use Rattle.ssh_key.specs.Key.{IsKey, PublicKey, blob_of}
use Rattle.ssh_key.specs.FirstFault.{IsFieldsFault, IsFirstKeyFault, in_field, in_fields, no_name, not_long}
use Rattle.ssh_key.proofs.Keys.{length-type_name}

pub public_cut : (key : PublicKey) (n : ℕ) → IsKey (blob_of key) key → n < length key.fields → IsFieldsFault key.kind (take n key.fields) (Wire Short)
public_cut key n is lt = in_field (table_cut Wire (fields_of key.kind) [] key.fields is.values n is.fields lt)

pub key_cut : (blob : List ℕ) (key : PublicKey) (n : ℕ) → IsKey blob key → n < length blob → IsFirstKeyFault (take n blob) (Wire Short)
key_cut blob key n is lt =
    let name : List ℕ = string (type_name key.kind) in
    let whole : length blob ≡ length name + length key.fields = ap length is.spelled ∙ length-append name key.fields in
    let short : length (take n blob) ≤ 65536 = omega (arith, length-take n blob, is.short) in
    elim (cases_lt n (length name)) [
      | inl within ↦
          not_long short (no_name Short (part_cut Text blob (type_name key.kind) key.fields n (record { is_part = omega (arith, length-type_name key.kind); spelled = is.spelled }) within) refl)
      | inr after ↦
          not_long short (in_fields key.kind (take (n - length name) key.fields) (ap (take n) is.spelled ∙ take-after name key.fields n after)
          (in_field (table_cut Wire (fields_of key.kind) [] key.fields is.values (n - length name) is.fields (omega arith))))
    ]
