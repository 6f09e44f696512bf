use Rattle.std.proofs.Common.{rules}
use Rattle.ssh_wire.specs.Rows.{table_at}
use Rattle.key_text.proofs.container.list.read_beginning.Goals as goal

pub returns : goal.returns
unfolding table_at
returns c = search rules steps 1000000
