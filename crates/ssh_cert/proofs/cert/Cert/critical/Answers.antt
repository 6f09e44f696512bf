use Rattle.std.proofs.Common.{rules}
use Rattle.ssh_cert.proofs.cert.Cert.critical.Goals as goal

pub returns : goal.returns
returns c = search rules steps 300000
