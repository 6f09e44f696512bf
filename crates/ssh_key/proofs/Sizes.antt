-- The least length of keys and of their names in bytes.
use Rattle.std.proofs.Common.{ℕ, ◌+◌, ◌≤◌, List, [], ◌∷◌, ◌++◌, length, ap, arith}
use Rattle.std.specs.Prelude.{slice_index}
use Rattle.std.proofs.lemmas.List.{length-append}
use Rattle.ssh_wire.specs.Rows.{BeginsWithTable, Magnitude, Number, Part, Row, Text, part_text}
use Rattle.ssh_wire.specs.Wire.{string}
use Rattle.ssh_wire.proofs.Fields.{length-mpint, length-number, length-string}
use Rattle.ssh_key.specs.Key.{IsKey, PublicKey}
use Rattle.ssh_key.specs.Kind.{certificate_name, fields_of, type_name}
use Rattle.ssh_key.specs.declared.fault.KeyFault.{KeyFault}
use Rattle.ssh_key.specs.declared.kind.Kind.{Kind}
use Rattle.ssh_key.specs.declared.kind.Kind.TheVariants.{Rsa, Dsa, Ecdsa256, Ecdsa384}
use Rattle.ssh_key.specs.declared.kind.Kind.TheVariants.{Ecdsa521, Ed25519, EcdsaSk, Ed25519Sk}

-- the least length of a part, and of the parts of a table
abbrev least : Part → ℕ
least (Number size) = size
least part = 4

abbrev least_of : List (Row KeyFault) → ℕ
least_of [] = 0
least_of (field ∷ fields) = least field.part + least_of fields

part_room : (part : Part) (value : List ℕ) → least part ≤ length (part_text part value)
part_room (Number size) value = omega (arith, length-number size (slice_index value 0))
part_room Magnitude value = omega (arith, length-mpint value)
part_room Text value = omega (arith, length-string value)

fields_room : (fields : List (Row KeyFault)) (before : List (List ℕ)) (bytes : List ℕ) (values : List (List ℕ)) (rest : List ℕ) → BeginsWithTable fields before bytes values rest → least_of fields + length rest ≤ length bytes
fields_room [] before bytes values rest l = omega (arith, ap length l.1)
fields_room (field ∷ fields) before bytes values rest (value, left, stands, passed, l) =
    let later = fields_room fields (before ++ value ∷ []) left values rest l in
    omega (arith, part_room field.part value, ap length stands.spelled, length-append (part_text field.part value) left)

kind_room : (kind : Kind) → 15 ≤ length (type_name kind) + least_of (fields_of kind)
kind_room Rsa = omega arith
kind_room Dsa = omega arith
kind_room Ecdsa256 = omega arith
kind_room Ecdsa384 = omega arith
kind_room Ecdsa521 = omega arith
kind_room Ed25519 = omega arith
kind_room EcdsaSk = omega arith
kind_room Ed25519Sk = omega arith

-- the blob of a key
pub key_room : (blob : List ℕ) (key : PublicKey) → IsKey blob key → 19 ≤ length blob
key_room blob key is =
    omega (
      arith,
      kind_room key.kind,
      fields_room (fields_of key.kind) [] key.fields is.values [] is.fields,
      ap length is.spelled,
      length-append (string (type_name key.kind)) key.fields,
      length-string (type_name key.kind),
    )

-- the names of a kind
pub name_room : (kind : Kind) → (7 ≤ length (type_name kind)) × (length (type_name kind) ≤ length (certificate_name kind))
name_room Rsa = (omega arith, omega arith)
name_room Dsa = (omega arith, omega arith)
name_room Ecdsa256 = (omega arith, omega arith)
name_room Ecdsa384 = (omega arith, omega arith)
name_room Ecdsa521 = (omega arith, omega arith)
name_room Ed25519 = (omega arith, omega arith)
name_room EcdsaSk = (omega arith, omega arith)
name_room Ed25519Sk = (omega arith, omega arith)
