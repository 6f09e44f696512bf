use Rattle.ssh_key.proofs.FirstFaults.{key_refused, first_fault_read}
use Rattle.ssh_key.proofs.laws.refused_by_first_fault.Goals as goal

pub returns : goal.returns
returns c = λ blob fault bytes. (key_refused blob fault bytes, first_fault_read blob fault)
