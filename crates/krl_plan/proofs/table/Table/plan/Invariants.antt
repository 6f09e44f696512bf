use Rattle.std.proofs.Common.{◌≤◌, length}
use Rattle.krl_plan.proofs.CostTable.{Planned}
use Rattle.krl_plan.proofs.table.Table.plan.Given as goal

abbrev pub invariant-loop-left : goal.invariant-loop-left
invariant-loop-left l = record {
  within : l.left ≤ length l.self.choices.items;
  planned : Planned l.self.choices.items l.plan.items l.left;
}

abbrev pub decreases-loop-left : goal.decreases-loop-left
decreases-loop-left l = l.left
