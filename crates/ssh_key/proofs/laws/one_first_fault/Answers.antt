use Rattle.ssh_key.specs.KeyReading.{key_at}
use Rattle.ssh_wire.proofs.Steps.{err_is, ok_or_err}
use Rattle.ssh_key.proofs.Keys.{key_again}
use Rattle.ssh_key.proofs.FirstFaults.{first_fault_read}
use Rattle.ssh_key.proofs.laws.one_first_fault.Goals as goal

pub returns-clause-one : goal.returns-clause-one
returns-clause-one c = λ blob a b p q. err_is a b (key_at blob) (first_fault_read blob a p) (first_fault_read blob b q)

pub returns-clause-none : goal.returns-clause-none
returns-clause-none c = λ blob key fault is not. ok_or_err key fault (key_at blob) (key_again blob key is) (first_fault_read blob fault not)
