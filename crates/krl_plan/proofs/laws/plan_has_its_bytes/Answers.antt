use Rattle.krl_plan.proofs.LeastBytes.{plan_least}
use Rattle.krl_plan.proofs.OnePlan.{length-plan}
use Rattle.krl_plan.proofs.Ranges.{cheapest_small}
use Rattle.krl_plan.proofs.laws.plan_has_its_bytes.Goals as goal

pub returns-clause-bytes : goal.returns-clause-bytes
returns-clause-bytes c runs plan r p = length-plan runs plan r p

pub returns-clause-few : goal.returns-clause-few
returns-clause-few c runs plan cheapest = cheapest_small runs plan cheapest

pub returns-clause-many : goal.returns-clause-many
returns-clause-many c = plan_least
