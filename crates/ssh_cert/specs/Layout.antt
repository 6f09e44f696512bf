-- The bytes of a certificate, field by field, as PROTOCOL.certkeys lists them.
--
-- Reading and spelling use the same tables, so a wrong row would be wrong in both. A law says that
-- the tables spell exactly these bytes.
use Rattle.std.specs.Prelude.{◌≡◌, ℕ, ◌<◌, ◌^◌, List, [], ◌∷◌, length}
use Rattle.std.specs.List.{concat}
use Rattle.ssh_wire.specs.Wire.{BeginsWith, number, string, strings}
use Rattle.ssh_key.specs.Key.{IsKey, blob_of}
use Rattle.ssh_key.specs.Kind.{certificate_name}
use Rattle.ssh_cert.specs.Cert.{Cert}
use Rattle.ssh_cert.specs.Options.{options_text}
use Rattle.ssh_cert.specs.declared.role.Role.{Role}
use Rattle.ssh_cert.specs.declared.role.Role.TheVariants.{User, Host}

-- SSH_CERT_TYPE_USER and SSH_CERT_TYPE_HOST
abbrev pub certificate_type : Role → ℕ
certificate_type User = 1
certificate_type Host = 2

-- The blob has, in this order: string type name, string nonce, the public fields of the key, uint64
-- serial, uint32 type, string key id, string valid principals, uint64 valid after, uint64 valid
-- before, string critical options, string extensions, string reserved, string signature key, string
-- signature. The signature key is the blob of the authority's key, and the signature begins with
-- the string of its algorithm's name.
pub record IsCertificateText (blob : List ℕ) (certificate : Cert) : Type 0 where
  pub reserved : List ℕ
  pub signature : List ℕ
  pub spelled : blob ≡ concat (
      string (certificate_name certificate.key.kind)
      ∷ string certificate.nonce
      ∷ certificate.key.fields
      ∷ number 8 certificate.serial
      ∷ number 4 (certificate_type certificate.role)
      ∷ string certificate.key_id
      ∷ string (strings certificate.principals)
      ∷ number 8 certificate.after
      ∷ number 8 certificate.before
      ∷ string (options_text certificate.critical)
      ∷ string (options_text certificate.extensions)
      ∷ string reserved
      ∷ string certificate.authority
      ∷ string signature
      ∷ [])
  pub key_is : IsKey (blob_of certificate.key) certificate.key
  pub authority_is : IsKey certificate.authority certificate.authority_key
  pub algorithm_is : BeginsWith signature certificate.algorithm
  pub nonce_fits : length certificate.nonce < 2 ^ 32
  pub serial_fits : certificate.serial < 2 ^ 64
  pub key_id_fits : length certificate.key_id < 2 ^ 32
  pub principals_fit : length (strings certificate.principals) < 2 ^ 32
  pub after_fits : certificate.after < 2 ^ 64
  pub before_fits : certificate.before < 2 ^ 64
  pub critical_fits : length (options_text certificate.critical) < 2 ^ 32
  pub extensions_fit : length (options_text certificate.extensions) < 2 ^ 32
  pub reserved_fits : length reserved < 2 ^ 32
  pub signature_fits : length signature < 2 ^ 32
