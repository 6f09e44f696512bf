-- A blob that was read: that of a plain key, or of a certificate.
use Rattle.std.specs.Prelude.{◌≡◌, ℕ, List, Option, Some, None, Ok, option_map}
use Rattle.std.specs.Result.{result_ok}
use Rattle.ssh_key.specs.Key.{IsKey, PublicKey, blob_of}
use Rattle.ssh_key.specs.KeyReading.{key_at}
use Rattle.ssh_cert.specs.declared.any_key.AnyKey.{AnyKey}
use Rattle.ssh_cert.specs.declared.any_key.AnyKey.TheVariants.{Plain, Certified}
use Rattle.ssh_cert.specs.CertReading.{certificate_at}
use Rattle.ssh_cert.specs.Cert.{Cert, IsCertificate}
use Rattle.krl_types.specs.Subject.{Subject}
use Rattle.ssh_cert.specs.SubjectReading.{names_of, subject_of}

-- the plain key, or that of the certificate
abbrev pub plain_of : AnyKey → PublicKey
plain_of (Plain key) = key
plain_of (Certified certificate) = certificate.key

abbrev pub certificate_in : AnyKey → Option Cert
certificate_in (Plain key) = None
certificate_in (Certified certificate) = Some certificate

-- the subject of a query for it
abbrev pub asked_of : AnyKey → Subject
asked_of any =
    record { plain = blob_of (plain_of any); cert = option_map names_of (certificate_in any) }

abbrev pub Spells : List ℕ → AnyKey → Type 0
Spells blob (Plain key) = IsKey blob key
Spells blob (Certified certificate) = IsCertificate blob certificate

-- The blob is that of the key or of the certificate, and each reader of blobs reads it so.
pub record IsReadAs (blob : List ℕ) (any : AnyKey) : Type 0 where
  pub spelled : Spells blob any
  pub asked : subject_of blob ≡ Ok (asked_of any)
  pub plain : key_at (asked_of any).plain ≡ Ok (plain_of any)
  pub certificate : result_ok (certificate_at blob) ≡ certificate_in any
