use Rattle.ssh_cert.proofs.Layouts.{certificate_spelled, certificate_spells}
use Rattle.ssh_cert.proofs.laws.certificate_is_these_bytes.Goals as goal

pub returns : goal.returns
returns c = λ blob certificate. (certificate_spelled blob certificate, certificate_spells blob certificate)
