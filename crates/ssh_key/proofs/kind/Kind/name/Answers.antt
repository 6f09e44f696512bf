use Rattle.std.proofs.Common.{rules}
use Rattle.ssh_key.proofs.kind.Kind.name.Goals as goal

pub returns-in-Dsa : goal.returns-in-Dsa
returns-in-Dsa c = search rules steps 300000
