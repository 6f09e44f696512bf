use Rattle.ssh_cert.specs.CertReading.{certificate_at}
use Rattle.ssh_cert.proofs.Certs.{certificate_again}
use Rattle.ssh_wire.proofs.Steps.{ok_is}
use Rattle.ssh_cert.proofs.laws.one_certificate.Goals as goal

pub returns : goal.returns
returns c = λ blob a b p q. ok_is a b (certificate_at blob) (certificate_again blob a p) (certificate_again blob b q)
