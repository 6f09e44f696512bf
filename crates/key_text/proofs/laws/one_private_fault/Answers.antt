use Rattle.key_text.specs.ContainerReading.{private_at}
use Rattle.key_text.proofs.PrivateLaws.{private_again, private_met}
use Rattle.ssh_wire.proofs.Steps.{err_is, ok_or_err}
use Rattle.key_text.proofs.laws.one_private_fault.Goals as goal

pub returns-clause-one : goal.returns-clause-one
returns-clause-one c = λ text a b fits p q. err_is a b (private_at text) (private_met text a fits p) (private_met text b fits q)

pub returns-clause-none : goal.returns-clause-none
returns-clause-none c = λ text blob comment fault fits is not. ok_or_err (record { blob = blob; comment = comment }) fault (private_at text) (private_again text blob comment is) (private_met text fault fits not)
