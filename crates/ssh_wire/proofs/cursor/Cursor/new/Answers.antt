use Rattle.std.proofs.Common.{rules}
use Rattle.ssh_wire.proofs.cursor.Cursor.new.Goals as goal

pub returns : goal.returns
returns c = search rules steps 300000
