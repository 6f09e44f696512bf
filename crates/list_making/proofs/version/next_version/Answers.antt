-- One more than the old version.
use Rattle.std.proofs.Common.{rules}
use Rattle.list_making.proofs.version.next_version.Goals as goal

pub returns-in-None-Some-clause-value : goal.returns-in-None-Some-clause-value
returns-in-None-Some-clause-value c = search rules steps 300000
