use Rattle.std.proofs.Common.{rules}
use Rattle.ssh_wire.proofs.fault.WireFault.number.Goals as goal

pub returns-in-NotShortest : goal.returns-in-NotShortest
returns-in-NotShortest c = search rules steps 300000
