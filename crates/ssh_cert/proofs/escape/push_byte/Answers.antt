use Rattle.std.proofs.Common.{rules}
use Rattle.ssh_cert.specs.Escape.{escaped_byte}
use Rattle.ssh_cert.proofs.escape.push_byte.Goals as goal

pub returns : goal.returns
unfolding escaped_byte
returns c = search rules steps 300000
