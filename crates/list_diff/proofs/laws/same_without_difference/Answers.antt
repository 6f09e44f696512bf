-- A name that is in both is named by both.
use Rattle.list_diff.proofs.Differences.{same_lost}
use Rattle.list_diff.proofs.laws.same_without_difference.Goals as goal

pub returns : goal.returns
returns c = same_lost
