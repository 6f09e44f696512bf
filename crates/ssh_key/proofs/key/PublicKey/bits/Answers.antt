use Rattle.std.proofs.Common.{rules}
use Rattle.ssh_key.proofs.key.PublicKey.bits.Goals as goal

pub returns : goal.returns
returns c = search rules steps 300000
