use Rattle.ssh_cert.proofs.Certs.{certificate_again, certificate_found}
use Rattle.ssh_cert.proofs.laws.read_where_spelled.Goals as goal

pub returns : goal.returns
returns c = λ blob certificate bytes. (certificate_found blob certificate bytes, certificate_again blob certificate)
