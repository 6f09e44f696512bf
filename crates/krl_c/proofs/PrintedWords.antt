-- The words for the number of a fault are those that the fault prints.
use Rattle.krl_c.proofs.Common.{◌≡◌, line_number, LineFault, list_number, refl, subject_number}
use Rattle.krl_c.proofs.Common.{SubjectFault}
use Rattle.ssh_wire.specs.declared.fault.WireFault.TheVariants.{Short, Negative, NotShortest}
use Rattle.ssh_key.specs.declared.fault.KeyFault.{KeyFault}
use Rattle.ssh_cert.specs.SubjectFault.{subject_fault_text}
use Rattle.ssh_cert.specs.declared.fault.CertFault.{CertFault}
use Rattle.krl_types.specs.KrlFault.{fault_text}
use Rattle.krl_types.specs.declared.krl_fault.KrlFault.{KrlFault}
use Rattle.krl_c.specs.Words.{words}
use Rattle.ssh_key.specs.declared.fault.KeyFault.TheVariants as keys
use Rattle.key_text.specs.LineFault.{fault_text as line_fault_text}
use Rattle.key_text.specs.declared.line_fault.LineFault.TheVariants as lines
use Rattle.ssh_cert.specs.declared.fault.CertFault.TheVariants as certs
use Rattle.ssh_cert.specs.declared.subject_fault.SubjectFault.TheVariants as subjects
use Rattle.krl_types.specs.declared.krl_fault.KrlFault.TheVariants as lists

pub of_list : (fault : KrlFault) → ¬ (fault ≡ lists.NoMemory) → words (list_number fault) ≡ fault_text fault
of_list lists.Magic not = refl
of_list lists.FormatVersion not = refl
of_list lists.EndsEarly not = refl
of_list lists.UnknownSection not = refl
of_list lists.UnknownCertSection not = refl
of_list lists.Length not = refl
of_list lists.RangeReversed not = refl
of_list lists.BitmapNegative not = refl
of_list lists.BitmapWraps not = refl
of_list lists.HashLength not = refl
of_list lists.AfterSignature not = refl
of_list lists.TooLong not = refl
of_list lists.Read not = refl
of_list lists.NoMemory not = absurd (not refl)
of_list lists.CriticalExtension not = refl

pub of_line : (fault : LineFault) → ¬ (fault ≡ lines.NoMemory) → words (line_number fault) ≡ line_fault_text fault
of_line lines.NoKey not = refl
of_line lines.Base64 not = refl
of_line lines.WordDiffers not = refl
of_line lines.NoMemory not = absurd (not refl)

-- a fault that may carry one of a key
abbrev Printed : SubjectFault → Type 0
Printed fault = words (subject_number fault) ≡ subject_fault_text fault

of_key : (key : KeyFault) → Printed (subjects.Key key)
of_key (keys.Wire Short) = refl
of_key (keys.Wire Negative) = refl
of_key (keys.Wire NotShortest) = refl
of_key keys.UnknownType = refl
of_key keys.Curve = refl
of_key keys.Point = refl
of_key keys.Length = refl
of_key keys.Number = refl
of_key keys.Trailing = refl
of_key keys.TooLong = refl

of_certified : (key : KeyFault) → Printed (subjects.Cert (certs.Key key))
of_certified (keys.Wire Short) = refl
of_certified (keys.Wire Negative) = refl
of_certified (keys.Wire NotShortest) = refl
of_certified keys.UnknownType = refl
of_certified keys.Curve = refl
of_certified keys.Point = refl
of_certified keys.Length = refl
of_certified keys.Number = refl
of_certified keys.Trailing = refl
of_certified keys.TooLong = refl

of_authority : (key : KeyFault) → Printed (subjects.Cert (certs.Authority key))
of_authority (keys.Wire Short) = refl
of_authority (keys.Wire Negative) = refl
of_authority (keys.Wire NotShortest) = refl
of_authority keys.UnknownType = refl
of_authority keys.Curve = refl
of_authority keys.Point = refl
of_authority keys.Length = refl
of_authority keys.Number = refl
of_authority keys.Trailing = refl
of_authority keys.TooLong = refl

of_cert : (cert : CertFault) → Printed (subjects.Cert cert)
of_cert certs.Wire = refl
of_cert certs.UnknownType = refl
of_cert (certs.Key key) = of_certified key
of_cert certs.CertType = refl
of_cert certs.Options = refl
of_cert certs.Principals = refl
of_cert (certs.Authority key) = of_authority key
of_cert certs.Signature = refl
of_cert certs.Trailing = refl

pub of_subject : (fault : SubjectFault) → ¬ (fault ≡ subjects.NoMemory) → Printed fault
of_subject (subjects.Key key) not = of_key key
of_subject (subjects.Cert cert) not = of_cert cert
of_subject subjects.NoMemory not = absurd (not refl)
