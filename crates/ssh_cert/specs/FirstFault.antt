-- Why a blob is not a certificate: its first fault, determined by the fields before it.
use Rattle.std.specs.Prelude.{◌≡◌, ℕ, ◌<◌, List, [], length}
use Rattle.ssh_wire.specs.Rows.{Fails, BeginsWithTable}
use Rattle.ssh_key.specs.FirstFault.{IsFieldsFault}
use Rattle.ssh_key.specs.Key.{BeginsWithFields, PublicKey}
use Rattle.ssh_key.specs.declared.fault.KeyFault.{KeyFault}
use Rattle.ssh_cert.specs.declared.fault.CertFault.{CertFault}
use Rattle.ssh_cert.specs.declared.fault.CertFault.TheVariants as faults
use Rattle.ssh_cert.specs.CertReading.{kind_of}
use Rattle.ssh_cert.specs.Field.{closing_fields, cut_short, opening_fields}

-- The type name and the nonce, and the public fields of a key of that kind, come first. Then comes
-- the rest.
pub record Opens (blob : List ℕ) (key : PublicKey) (rest : List ℕ) : Type 0 where
  pub values : List (List ℕ)
  pub fields : List ℕ
  pub opening : BeginsWithTable opening_fields [] blob values fields
  pub kind : key.kind ≡ kind_of values
  pub public : BeginsWithFields fields key rest

pub data IsFirstCertFault (blob : List ℕ) (fault : CertFault) : Type 0 where
  in_opening : Fails cut_short opening_fields [] blob fault → IsFirstCertFault blob fault
  in_key : (values : List (List ℕ)) (fields : List ℕ) (why : KeyFault)
      → BeginsWithTable opening_fields [] blob values fields
      → IsFieldsFault (kind_of values) fields why
      → fault ≡ faults.Key why → IsFirstCertFault blob fault
  in_closing : (key : PublicKey) (rest : List ℕ) → Opens blob key rest
      → Fails cut_short closing_fields [] rest fault → IsFirstCertFault blob fault
  after_fields : (key : PublicKey) (bytes : List ℕ) (values : List (List ℕ)) (rest : List ℕ)
      → Opens blob key bytes → BeginsWithTable closing_fields [] bytes values rest → 0 < length rest
      → fault ≡ faults.Trailing → IsFirstCertFault blob fault
