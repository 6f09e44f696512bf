-- The subject of a blob, and why it has none.
use Rattle.std.specs.Prelude.{◌≡◌, ℕ, Bool, false, List, Some, None, Result, Ok, Err, is_some}
use Rattle.std.specs.Prelude.{if◌then◌else◌}
use Rattle.ssh_wire.specs.Reading.{Answers, string_at}
use Rattle.ssh_wire.specs.declared.fault.WireFault.{WireFault}
use Rattle.ssh_wire.specs.Wire.{BeginsWith}
use Rattle.ssh_key.specs.declared.fault.KeyFault.{KeyFault}
use Rattle.ssh_key.specs.declared.kind.Kind.{Kind}
use Rattle.ssh_key.specs.FirstFault.{IsFirstKeyFault}
use Rattle.ssh_key.specs.Key.{IsKey, PublicKey, blob_of}
use Rattle.ssh_key.specs.KeyReading.{key_at}
use Rattle.ssh_key.specs.Kind.{certificate_name, kind_certified}
use Rattle.ssh_cert.specs.declared.fault.CertFault.{CertFault}
use Rattle.ssh_cert.specs.declared.subject_fault.SubjectFault.{SubjectFault}
use Rattle.ssh_cert.specs.declared.subject_fault.SubjectFault.TheVariants as faults
use Rattle.ssh_cert.specs.CertReading.{certificate_at}
use Rattle.ssh_cert.specs.Cert.{Cert, IsCertificate}
use Rattle.ssh_cert.specs.FirstFault.{IsFirstCertFault}
use Rattle.krl_types.specs.Subject.{CertNames, Subject}

abbrev pub names_of : Cert → CertNames
names_of certificate = record {
  serial = certificate.serial;
  key_id = certificate.key_id;
  authority = certificate.authority;
}

-- the subject of a certificate has its plain key, never its own blob
abbrev pub of_certificate : Cert → Subject
of_certificate certificate =
    record { plain = blob_of certificate.key; cert = Some (names_of certificate) }

abbrev pub of_key : List ℕ → Subject
of_key blob = record { plain = blob; cert = None }

-- The blob is that of a plain key or of a certificate, and has this subject.
pub data IsSubject (blob : List ℕ) (subject : Subject) : Type 0 where
  plain_key : (key : PublicKey) → IsKey blob key → subject ≡ of_key blob → IsSubject blob subject
  certified : (certificate : Cert) → IsCertificate blob certificate
      → subject ≡ of_certificate certificate → IsSubject blob subject

-- the first string is the type name of a certificate
pub record HasCertificateName (blob : List ℕ) : Type 0 where
  pub kind : Kind
  pub begins : BeginsWith blob (certificate_name kind)

-- The first fault of a blob: that of a certificate if its first string is the type name of one,
-- otherwise that of a plain key.
pub data IsSubjectFault (blob : List ℕ) (fault : SubjectFault) : Type 0 where
  no_key : (why : KeyFault) → ¬ HasCertificateName blob → IsFirstKeyFault blob why
      → fault ≡ faults.Key why → IsSubjectFault blob fault
  no_certificate : (why : CertFault) → HasCertificateName blob → IsFirstCertFault blob why
      → fault ≡ faults.Cert why → IsSubjectFault blob fault

-- the blob of a plain key or of a certificate
pub record HasSubject (blob : List ℕ) : Type 0 where
  pub subject : Subject
  pub is : IsSubject blob subject

-- The reported fault of a blob: its first one, or that an allocation for its subject failed.
abbrev pub IsReportedFault : List ℕ → SubjectFault → Type 0
IsReportedFault blob faults.NoMemory = HasSubject blob
IsReportedFault blob fault = IsSubjectFault blob fault

abbrev pub is_certified : Result (List ℕ × List ℕ) WireFault → Bool
is_certified (Ok (name, rest)) = is_some (kind_certified name)
is_certified (Err fault) = false

abbrev pub key_subject : List ℕ → Result PublicKey KeyFault → Result Subject SubjectFault
key_subject blob (Ok key) = Ok (of_key blob)
key_subject blob (Err fault) = Err (faults.Key fault)

abbrev pub certificate_subject : Result Cert CertFault → Result Subject SubjectFault
certificate_subject (Ok certificate) = Ok (of_certificate certificate)
certificate_subject (Err fault) = Err (faults.Cert fault)

-- the same as functions that read from left to right
unfoldable pub is_certificate : List ℕ → Bool
is_certificate blob = is_certified (string_at blob)

unfoldable pub subject_of : List ℕ → Result Subject SubjectFault
subject_of blob =
    if is_certificate blob then certificate_subject (certificate_at blob)
    else key_subject blob (key_at blob)

-- reading gives a subject
pub record IsAsked (read : Result Subject SubjectFault) : Type 0 where
  pub subject : Subject
  pub read_as : read ≡ Ok subject

-- The fault is the one that reading gives, or an allocation for the subject failed.
abbrev pub ReportsFault : SubjectFault → Result Subject SubjectFault → Type 0
ReportsFault faults.NoMemory read = IsAsked read
ReportsFault fault read = read ≡ Err fault

abbrev pub AnswersSubject : Result Subject SubjectFault → Result Subject SubjectFault → Type 0
AnswersSubject result read = Answers ReportsFault (λ subject. subject) result read
