use Rattle.krl_plan.proofs.OnePlan.{one_plan}
use Rattle.krl_plan.proofs.laws.one_least_plan.Goals as goal

pub returns : goal.returns
returns c runs one other p q = one_plan runs one other p q
