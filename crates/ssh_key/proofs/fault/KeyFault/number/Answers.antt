use Rattle.std.proofs.Common.{rules}
use Rattle.ssh_key.proofs.fault.KeyFault.number.Goals as goal

pub returns-in-Trailing : goal.returns-in-Trailing
returns-in-Trailing c = search rules steps 300000
