use Rattle.ssh_cert.proofs.Subjects.{subject_fault_read, subject_refused}
use Rattle.ssh_cert.proofs.laws.not_asked_by_first_fault.Goals as goal

pub returns : goal.returns
returns c = λ blob fault bytes. (subject_refused blob fault bytes, subject_fault_read blob fault bytes)
