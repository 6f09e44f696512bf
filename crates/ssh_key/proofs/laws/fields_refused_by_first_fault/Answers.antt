use Rattle.ssh_key.proofs.FirstFaults.{fields_fault_read, public_refused}
use Rattle.ssh_key.proofs.laws.fields_refused_by_first_fault.Goals as goal

pub returns : goal.returns
returns c = λ kind bytes fault fits. (public_refused kind bytes fault fits, fields_fault_read kind bytes fault)
