use Rattle.ssh_cert.proofs.Certs.{certificate_refused, first_fault_read}
use Rattle.ssh_cert.proofs.laws.refused_by_first_fault.Goals as goal

pub returns : goal.returns
returns c = λ blob fault bytes. (certificate_refused blob fault bytes, first_fault_read blob fault)
