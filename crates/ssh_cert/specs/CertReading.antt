-- Reading a certificate from left to right, up to the first fault.
use Rattle.std.specs.Prelude.{ℕ, List, [], ◌∷◌, length, slice_index, slice_index_or, Result, Ok}
use Rattle.std.specs.Prelude.{Err, ◌==◌, if◌then◌else◌}
use Rattle.std.specs.Result.{result_unwrap_or}
use Rattle.ssh_wire.specs.Reading.{◌>>=◌, in_fault}
use Rattle.ssh_wire.specs.Rows.{table_at}
use Rattle.ssh_key.specs.declared.kind.Kind.{Kind}
use Rattle.ssh_key.specs.declared.kind.Kind.TheVariants.{Rsa}
use Rattle.ssh_key.specs.Key.{PublicKey}
use Rattle.ssh_key.specs.KeyReading.{public_at}
use Rattle.ssh_cert.specs.declared.fault.CertFault.{CertFault}
use Rattle.ssh_cert.specs.declared.fault.CertFault.TheVariants as faults
use Rattle.ssh_cert.specs.declared.role.Role.TheVariants.{User}
use Rattle.ssh_cert.specs.Cert.{Cert, Value, Values, certificate_with}
use Rattle.ssh_cert.specs.Field.{Bytes, Count, KeyBlob, Meaning, Options, Principals, RoleNumber}
use Rattle.ssh_cert.specs.Field.{Signature, algorithm_in, authority_in, closing_fields}
use Rattle.ssh_cert.specs.Field.{closing_table, cut_short, kind_in, opening_fields, options_in}
use Rattle.ssh_cert.specs.Field.{principals_in, role_in}

-- the value with this index
abbrev pub nth : List (List ℕ) → ℕ → List ℕ
nth values i = slice_index_or values i []

-- the kind that the type name says, which is the first value
abbrev pub kind_of : List (List ℕ) → Kind
kind_of opening = result_unwrap_or (kind_in (nth opening 0)) Rsa

abbrev pub no_key : PublicKey
no_key = record { kind = Rsa; fields = []; bits = 0 }

-- The value of a text. For a text that has none, the result is never used.
abbrev pub value_of : (meaning : Meaning) → List ℕ → Value meaning
value_of Count text = slice_index text 0
value_of Bytes text = text
value_of RoleNumber text = result_unwrap_or (role_in text) User
value_of Principals text = result_unwrap_or (principals_in text) []
value_of Options text = result_unwrap_or (options_in text) []
value_of KeyBlob text = (text, result_unwrap_or (authority_in text) no_key)
value_of Signature text = (text, result_unwrap_or (algorithm_in text) [])

abbrev pub values_of : (table : List Meaning) → List (List ℕ) → Values table
values_of [] texts = tt
values_of (meaning ∷ table) [] = (value_of meaning [], values_of table [])
values_of (meaning ∷ table) (text ∷ texts) = (value_of meaning text, values_of table texts)

abbrev pub certificate_of : List ℕ → PublicKey → List (List ℕ) → Cert
certificate_of nonce key texts = certificate_with nonce key (values_of closing_table texts)

-- the certificate whose fields after those of its key are at the front, and the bytes after them
unfoldable pub closing_at : List ℕ → PublicKey → List ℕ → Result (Cert × List ℕ) CertFault
closing_at nonce key bytes = do
  values ← table_at cut_short closing_fields [] bytes
  Ok (certificate_of nonce key values.0, values.1)

-- all of the bytes
unfoldable pub certificate_at : List ℕ → Result Cert CertFault
certificate_at blob = do
  opening ← table_at cut_short opening_fields [] blob
  key ← in_fault faults.Key (public_at (kind_of opening.0) opening.1)
  found ← closing_at (nth opening.0 1) key.0 key.1
  if length found.1 == 0 then Ok found.0 else Err faults.Trailing
