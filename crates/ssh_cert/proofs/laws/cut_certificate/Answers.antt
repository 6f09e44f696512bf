use Rattle.ssh_cert.proofs.TruncatedCertificates.{certificate_cut}
use Rattle.ssh_cert.proofs.laws.cut_certificate.Goals as goal

pub returns : goal.returns
returns c = λ blob front certificate bytes is cut. certificate_cut blob front certificate is cut
