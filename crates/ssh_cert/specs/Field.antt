-- The fields of a certificate as tables (PROTOCOL.certkeys): those before the public fields of its
-- key, which `ssh_key` has as tables, and those after them.
use Rattle.std.specs.Prelude.{ℕ, List, [], ◌∷◌, map, slice_index, Option, Some, None, Result, Ok}
use Rattle.std.specs.Prelude.{◌==◌, if◌then◌else◌}
use Rattle.std.specs.Option.{ok_or}
use Rattle.std.specs.Result.{result_err}
use Rattle.ssh_wire.specs.Reading.{◌>>=◌, in_fault, string_at}
use Rattle.ssh_wire.specs.Rows.{Number, Part, Row, Text, passes, row}
use Rattle.ssh_wire.specs.declared.fault.WireFault.{WireFault}
use Rattle.ssh_key.specs.declared.kind.Kind.{Kind}
use Rattle.ssh_key.specs.Key.{PublicKey}
use Rattle.ssh_key.specs.KeyReading.{key_at}
use Rattle.ssh_key.specs.Kind.{kind_certified}
use Rattle.ssh_cert.specs.declared.fault.CertFault.{CertFault}
use Rattle.ssh_cert.specs.declared.fault.CertFault.TheVariants as faults
use Rattle.ssh_cert.specs.declared.role.Role.{Role}
use Rattle.ssh_cert.specs.declared.role.Role.TheVariants.{User, Host}
use Rattle.ssh_cert.specs.Options.{CertOption, options_of}
use Rattle.ssh_cert.specs.Strings.{strings_of}

-- a field that is truncated, whatever the fault of the wire
abbrev pub cut_short : WireFault → CertFault
cut_short fault = faults.Wire

-- ---- the meaning of a value, or its fault

-- the kind whose certificates have this type name
unfoldable pub kind_in : List ℕ → Result Kind CertFault
kind_in name = ok_or (kind_certified name) faults.UnknownType

-- SSH_CERT_TYPE_USER and SSH_CERT_TYPE_HOST
abbrev pub role_of : ℕ → Option Role
role_of n = if n == 1 then Some User else if n == 2 then Some Host else None

unfoldable pub role_in : List ℕ → Result Role CertFault
role_in number = ok_or (role_of (slice_index number 0)) faults.CertType

unfoldable pub principals_in : List ℕ → Result (List (List ℕ)) CertFault
principals_in text = ok_or (strings_of text) faults.Principals

-- options or extensions
unfoldable pub options_in : List ℕ → Result (List CertOption) CertFault
options_in text = ok_or (options_of text) faults.Options

-- the signature key
unfoldable pub authority_in : List ℕ → Result PublicKey CertFault
authority_in blob = in_fault faults.Authority (key_at blob)

-- the name of the signature's algorithm, which comes first
unfoldable pub algorithm_in : List ℕ → Result (List ℕ) CertFault
algorithm_in signature = do
  first ← in_fault (λ why. faults.Signature) (string_at signature)
  Ok first.0

-- ---- the tables

-- a part whose value has a meaning
abbrev pub meaning : {A : Type 0} → Part → (List ℕ → Result A CertFault) → Row CertFault
meaning part read = row part (λ before value. result_err (read value))

-- the type name and the nonce
abbrev pub opening_fields : List (Row CertFault)
opening_fields = meaning Text kind_in ∷ row Text passes ∷ []

-- what the value of a field after the public ones means
pub data Meaning : Type 0 where
  -- a number of eight bytes
  Count : Meaning
  -- any bytes
  Bytes : Meaning
  RoleNumber : Meaning
  Principals : Meaning
  -- options or extensions
  Options : Meaning
  -- the blob of a key
  KeyBlob : Meaning
  -- a signature, which begins with the name of its algorithm
  Signature : Meaning

abbrev pub row_of : Meaning → Row CertFault
row_of Count = row (Number 8) passes
row_of Bytes = row Text passes
row_of RoleNumber = meaning (Number 4) role_in
row_of Principals = meaning Text principals_in
row_of Options = meaning Text options_in
row_of KeyBlob = meaning Text authority_in
row_of Signature = meaning Text algorithm_in

-- The serial number, the role, the key ID, the principals, the times between which the certificate
-- is valid, the critical options, the extensions, the reserved field, the signature key and the
-- signature.
abbrev pub closing_table : List Meaning
closing_table =
    Count
    ∷ RoleNumber
    ∷ Bytes
    ∷ Principals
    ∷ Count
    ∷ Count
    ∷ Options
    ∷ Options
    ∷ Bytes
    ∷ KeyBlob
    ∷ Signature
    ∷ []

abbrev pub closing_fields : List (Row CertFault)
closing_fields = map row_of closing_table
