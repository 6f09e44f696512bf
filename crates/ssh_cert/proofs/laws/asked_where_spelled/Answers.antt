use Rattle.ssh_cert.proofs.Subjects.{subject_again, subject_found}
use Rattle.ssh_cert.proofs.laws.asked_where_spelled.Goals as goal

pub returns : goal.returns
returns c = λ blob asked bytes. (subject_found blob asked bytes, subject_again blob asked)
