use Rattle.std.proofs.Common.{length}
use Rattle.krl_plan_tests.proofs.tests.planning.+least_cost.Given as goal

abbrev pub decreases-least_cost : goal.decreases-least_cost
decreases-least_cost l = length l.runs.now
