use Rattle.std.proofs.Common.{rules}
use Rattle.ssh_wire.proofs.put.put_byte.Goals as goal

pub returns-clause-appends : goal.returns-clause-appends
returns-clause-appends c = search rules steps 300000
