use Rattle.std.proofs.Common.{rules}
use Rattle.ssh_cert.proofs.subject_fault.SubjectFaultDisplay.fmt.Goals as goal

pub returns-in-Cert-clause-writes : goal.returns-in-Cert-clause-writes
returns-in-Cert-clause-writes c = search rules steps 2000000
