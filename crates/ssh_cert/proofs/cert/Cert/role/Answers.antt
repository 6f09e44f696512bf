use Rattle.std.proofs.Common.{rules}
use Rattle.ssh_cert.proofs.cert.Cert.role.Goals as goal

pub returns : goal.returns
returns c = search rules steps 300000
