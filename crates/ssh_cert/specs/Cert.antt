-- The content of a certificate, and how its blob is spelled (PROTOCOL.certkeys).
use Rattle.std.specs.Prelude.{◌≡◌, ℕ, List, [], ◌∷◌}
use Rattle.ssh_wire.specs.Rows.{BeginsWithTable}
use Rattle.ssh_wire.specs.Wire.{BeginsWith, strings}
use Rattle.ssh_key.specs.Key.{BeginsWithFields, IsKey, PublicKey}
use Rattle.ssh_key.specs.Kind.{certificate_name}
use Rattle.ssh_cert.specs.declared.role.Role.{Role}
use Rattle.ssh_cert.specs.declared.role.Role.TheVariants.{User, Host}
use Rattle.ssh_cert.specs.Field.{Bytes, Count, KeyBlob, Meaning, Options, Principals, RoleNumber}
use Rattle.ssh_cert.specs.Field.{Signature, closing_fields, closing_table, opening_fields}
use Rattle.ssh_cert.specs.Options.{CertOption, options_text}

-- The fields of a certificate, without the reserved one; only the algorithm's name of the
-- signature.
pub record Cert : Type 0 where
  pub nonce : List ℕ
  pub key : PublicKey
  pub serial : ℕ
  pub role : Role
  pub key_id : List ℕ
  pub principals : List (List ℕ)
  pub after : ℕ
  pub before : ℕ
  pub critical : List CertOption
  pub extensions : List CertOption
  pub authority : List ℕ
  pub authority_key : PublicKey
  pub algorithm : List ℕ

-- SSH_CERT_TYPE_USER and SSH_CERT_TYPE_HOST
abbrev pub role_number : Role → ℕ
role_number User = 1
role_number Host = 2

-- the values of the fields before the public fields of the key
abbrev pub opening_values : Cert → List (List ℕ)
opening_values certificate =
    certificate_name certificate.key.kind ∷ certificate.nonce ∷ []

-- ---- the values of the fields after them

-- The value of a field: a key together with its blob, and the name of an algorithm together with
-- the signature that begins with it.
abbrev pub Value : Meaning → Type 0
Value Count = ℕ
Value Bytes = List ℕ
Value RoleNumber = Role
Value Principals = List (List ℕ)
Value Options = List CertOption
Value KeyBlob = List ℕ × PublicKey
Value Signature = List ℕ × List ℕ

-- its spelling; a number is seen as a list of itself
abbrev pub text_of : (meaning : Meaning) → Value meaning → List ℕ
text_of Count value = value ∷ []
text_of Bytes value = value
text_of RoleNumber value = role_number value ∷ []
text_of Principals value = strings value
text_of Options value = options_text value
text_of KeyBlob value = value.0
text_of Signature value = value.0

-- The key is that of its blob, and the signature begins with the name.
abbrev pub IsValue : (meaning : Meaning) → Value meaning → Type 0
IsValue KeyBlob value = IsKey value.0 value.1
IsValue Signature value = BeginsWith value.0 value.1
IsValue _ value = Unit {0}

abbrev pub Values : List Meaning → Type 0
Values [] = Unit {0}
Values (meaning ∷ table) = Value meaning × Values table

abbrev pub texts_of : (table : List Meaning) → Values table → List (List ℕ)
texts_of [] values = []
texts_of (meaning ∷ table) values = text_of meaning values.0 ∷ texts_of table values.1

abbrev pub AreValues : (table : List Meaning) → Values table → Type 0
AreValues [] values = Unit {0}
AreValues (meaning ∷ table) values = IsValue meaning values.0 × AreValues table values.1

-- The certificate with these values in order. Each name has the values from its field on.
abbrev pub certificate_with : List ℕ → PublicKey → Values closing_table → Cert
certificate_with nonce key serial =
    let role = serial.1 in
    let key_id = role.1 in
    let principals = key_id.1 in
    let after = principals.1 in
    let before = after.1 in
    let critical = before.1 in
    let extensions = critical.1 in
    let reserved = extensions.1 in
    let authority = reserved.1 in
    let signature = authority.1 in
    record {
      nonce = nonce;
      key = key;
      serial = serial.0;
      role = role.0;
      key_id = key_id.0;
      principals = principals.0;
      after = after.0;
      before = before.0;
      critical = critical.0;
      extensions = extensions.0;
      authority = authority.0.0;
      authority_key = authority.0.1;
      algorithm = signature.0.1;
    }

-- The blob is that of the certificate: the fields with its values in order, and nothing more.
pub record IsCertificate (blob : List ℕ) (certificate : Cert) : Type 0 where
  pub values : Values closing_table
  pub fields : List ℕ
  pub rest : List ℕ
  pub opening : BeginsWithTable opening_fields [] blob (opening_values certificate) fields
  pub public : BeginsWithFields fields certificate.key rest
  pub closing : BeginsWithTable closing_fields [] rest (texts_of closing_table values) []
  pub are_values : AreValues closing_table values
  pub same : certificate_with certificate.nonce certificate.key values ≡ certificate
