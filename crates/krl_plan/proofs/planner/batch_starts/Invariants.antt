use Rattle.krl_plan.proofs.Common.{◌*◌, ◌≡◌, BeginBatches, drop, left, length, steps}
use Rattle.krl_plan.proofs.planner.batch_starts.Given as goal

abbrev pub invariant-loop-next : goal.invariant-loop-next
invariant-loop-next g l =
    let spans = g.S.Spans.spans l.set in
    record { begin : BeginBatches spans l.starts.items; rest : left l.next spans ≡ drop (1024 * length l.starts.items) spans }

abbrev pub decreases-loop-next : goal.decreases-loop-next
decreases-loop-next g l = steps l.next (g.S.Spans.spans l.set)
