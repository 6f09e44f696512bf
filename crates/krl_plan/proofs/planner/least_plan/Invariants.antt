use Rattle.krl_plan.proofs.Common.{◌*◌, BeginBatches, drop, Knows, length}
use Rattle.krl_plan.proofs.planner.least_plan.Given as goal

abbrev pub invariant-loop-number : goal.invariant-loop-number
invariant-loop-number g l =
    let spans = g.S.Spans.spans l.set in
    record { begin : BeginBatches spans l.starts.items; known : Knows l.table (drop (1024 * length l.starts.items) spans) }

abbrev pub decreases-loop-number : goal.decreases-loop-number
decreases-loop-number g l = length l.starts.items
