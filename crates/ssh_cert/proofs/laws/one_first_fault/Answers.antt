use Rattle.ssh_cert.specs.CertReading.{certificate_at}
use Rattle.ssh_cert.proofs.Certs.{certificate_again, first_fault_read}
use Rattle.ssh_wire.proofs.Steps.{err_is, ok_or_err}
use Rattle.ssh_cert.proofs.laws.one_first_fault.Goals as goal

pub returns-clause-one : goal.returns-clause-one
returns-clause-one c = λ blob a b bytes p q. err_is a b (certificate_at blob) (first_fault_read blob a p) (first_fault_read blob b q)

pub returns-clause-none : goal.returns-clause-none
returns-clause-none c = λ blob certificate fault bytes is not. ok_or_err certificate fault (certificate_at blob) (certificate_again blob certificate is) (first_fault_read blob fault not)
