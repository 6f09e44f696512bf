-- Bytes decide what is held, and what is held decides its differences.
use Rattle.show_run.proofs.OneDifference.{one_comparison}
use Rattle.show_run.proofs.laws.bytes_decide_the_changes.Goals as goal

pub returns : goal.returns
returns c = one_comparison
