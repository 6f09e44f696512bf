use Rattle.std.proofs.Common.{rules}
use Rattle.byte_streams.proofs.pull.Pull.array.Goals as goal

pub returns-clause-ok : goal.returns-clause-ok
returns-clause-ok g c = search rules steps 1000000
