use Rattle.std.proofs.Common.{refl}
use Rattle.ssh_key.specs.KeyReading.{public_at}
use Rattle.ssh_key.proofs.FirstFaults.{fields_fault_read}
use Rattle.ssh_key.proofs.Keys.{public_again}
use Rattle.ssh_wire.proofs.Steps.{err_is, ok_or_err}
use Rattle.ssh_key.proofs.laws.one_fields_fault.Goals as goal

pub returns-clause-one : goal.returns-clause-one
returns-clause-one c = λ kind bytes a b p q. err_is a b (public_at kind bytes) (fields_fault_read kind bytes a p) (fields_fault_read kind bytes b q)

pub returns-clause-none : goal.returns-clause-none
returns-clause-none c = λ key bytes rest fault begins not.
    ok_or_err (key, rest) fault (public_at key.kind bytes) (public_again key.kind bytes rest key refl begins) (fields_fault_read key.kind bytes fault not)
