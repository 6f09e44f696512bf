use Rattle.ssh_cert.specs.SubjectReading.{subject_of}
use Rattle.ssh_cert.proofs.Subjects.{subject_again}
use Rattle.ssh_wire.proofs.Steps.{ok_is}
use Rattle.ssh_cert.proofs.laws.one_subject.Goals as goal

pub returns : goal.returns
returns c = λ blob a b p q. ok_is a b (subject_of blob) (subject_again blob a p) (subject_again blob b q)
