use Rattle.krl_spec.proofs.BoundsLaws.{bounds_again, bounds_found}
use Rattle.krl_spec.proofs.laws.bounds_where_spelled.Goals as goal

pub returns : goal.returns
returns c = λ text bounds. (bounds_found text bounds, bounds_again text bounds.lo bounds.hi)
