use Rattle.std.proofs.Common.{◌-◌, ◌^◌, [], arith}
use Rattle.krl_plan.proofs.CostTable.{none_choices, none_costs}
use Rattle.krl_plan.proofs.table.Table.new.Goals as goal

pub returns : goal.returns
returns c = (
  2 ^ 64 - 1,
  (omega arith, ([], record { lists = c.new.ensures; bitmaps = c.new-2.ensures (2 ^ 64 - 1); costs = none_costs; bounded = omega arith; choices = rw c.new-3.ensures.items none_choices })),
)
