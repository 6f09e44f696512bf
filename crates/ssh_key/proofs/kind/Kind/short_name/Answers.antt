use Rattle.std.proofs.Common.{rules}
use Rattle.ssh_key.proofs.kind.Kind.short_name.Goals as goal

pub returns-in-EcdsaSk : goal.returns-in-EcdsaSk
returns-in-EcdsaSk c = search rules steps 300000
