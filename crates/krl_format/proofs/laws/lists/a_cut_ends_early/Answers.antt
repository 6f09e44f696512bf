use Rattle.krl_format.proofs.TruncatedLists.{cut_short}
use Rattle.krl_format.proofs.laws.lists.a_cut_ends_early.Goals as goal

pub returns : goal.returns
returns c = cut_short
