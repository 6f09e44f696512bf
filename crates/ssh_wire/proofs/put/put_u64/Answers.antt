use Rattle.std.proofs.Common.{rules}
use Rattle.ssh_wire.specs.Wire.{number}
use Rattle.ssh_wire.proofs.put.put_u64.Goals as goal

pub returns-clause-appends : goal.returns-clause-appends
unfolding number
returns-clause-appends c = search rules steps 1000000
