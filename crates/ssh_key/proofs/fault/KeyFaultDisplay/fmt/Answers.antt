use Rattle.std.proofs.Common.{rules}
use Rattle.ssh_key.proofs.fault.KeyFaultDisplay.fmt.Goals as goal

pub returns-in-Curve-clause-writes : goal.returns-in-Curve-clause-writes
returns-in-Curve-clause-writes c = search rules steps 2000000
