use Rattle.std.proofs.Common.{rules}
use Rattle.ssh_key.specs.KeyReading.{key_at}
use Rattle.ssh_key.proofs.key.read_key.Goals as goal

pub returns : goal.returns
unfolding key_at
returns c = search rules steps 1000000
