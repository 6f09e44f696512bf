-- The numbers and the printed names of the faults of a subject.
use Rattle.std.specs.Prelude.{ℕ, List, ◌++◌, codes}
use Rattle.ssh_key.specs.KeyFault.{key_fault_text}
use Rattle.ssh_cert.specs.CertFault.{cert_fault_text}
use Rattle.ssh_cert.specs.declared.subject_fault.SubjectFault.{SubjectFault}
use Rattle.ssh_cert.specs.declared.subject_fault.SubjectFault.TheVariants.{Key, Cert, NoMemory}

abbrev pub subject_fault_number : SubjectFault → ℕ
subject_fault_number (Key fault) = 1
subject_fault_number (Cert fault) = 2
subject_fault_number NoMemory = 3

abbrev pub subject_fault_text : SubjectFault → List ℕ
subject_fault_text (Key fault) = codes "subject 1 Key, " ++ key_fault_text fault
subject_fault_text (Cert fault) = codes "subject 2 Cert, " ++ cert_fault_text fault
subject_fault_text NoMemory = codes "subject 3 NoMemory"
