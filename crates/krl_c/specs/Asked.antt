-- The key or the certificate that a list is asked about.
use Rattle.std.specs.Prelude.{◌≡◌, ℕ, Bool, true, false, List, Option, Some, None}
use Rattle.krl_openssh.specs.Difference.{has_zero}
use Rattle.krl_types.specs.Subject.{CertNames, Subject}
use Rattle.ssh_cert.specs.SubjectReading.{IsReportedFault, IsSubject, IsSubjectFault}
use Rattle.krl_c.specs.declared.asked.BlobFault.{BlobFault}
use Rattle.krl_c.specs.declared.asked.BlobFault.TheVariants as faults

-- OpenSSH reads a key ID as text, which ends at a zero byte.
abbrev pub has_odd_id : Option CertNames → Bool
has_odd_id None = false
has_odd_id (Some names) = has_zero names.key_id

-- The blob is that of a key, or of a certificate whose key ID has no zero byte.
pub record IsQuery (blob : List ℕ) (asked : Subject) : Type 0 where
  pub subject : IsSubject blob asked
  pub whole : has_odd_id asked.cert ≡ false

-- The blob is that of a certificate whose key ID has a zero byte.
pub record HasOddId (blob : List ℕ) : Type 0 where
  pub asked : Subject
  pub subject : IsSubject blob asked
  pub odd : has_odd_id asked.cert ≡ true

-- Why a list is not asked: the first fault of the blob, or such a key ID.
abbrev pub IsRefusedBlob : List ℕ → BlobFault → Type 0
IsRefusedBlob blob (faults.Subject fault) = IsSubjectFault blob fault
IsRefusedBlob blob faults.KeyId = HasOddId blob

-- That, or that an allocation failed.
abbrev pub IsReportedRefusal : List ℕ → BlobFault → Type 0
IsReportedRefusal blob (faults.Subject fault) = IsReportedFault blob fault
IsReportedRefusal blob faults.KeyId = HasOddId blob
