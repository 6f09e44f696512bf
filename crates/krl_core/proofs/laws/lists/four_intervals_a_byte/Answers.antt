use Rattle.krl_core.proofs.Common.{◌++◌, concat, IsBytes, IsBytes-front, IsBytes-take, limit, subst}
use Rattle.krl_core.proofs.IntervalBound.{four_a_byte}
use Rattle.krl_core.proofs.laws.lists.four_intervals_a_byte.Goals as goal

pub returns : goal.returns
returns c text fields state rest r fits front means =
    let within : IsBytes (concat fields ++ rest) = subst IsBytes front.parts (IsBytes-take limit text fits) in
    four_a_byte fields state r front.leads (IsBytes-front (concat fields) rest within) means
