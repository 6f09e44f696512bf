use Rattle.std.proofs.Common.{rules}
use Rattle.byte_streams.proofs.pull.Pull.at_end.Goals as goal

pub returns-in-Ok-clause-ok : goal.returns-in-Ok-clause-ok
returns-in-Ok-clause-ok g c = search rules steps 1000000
