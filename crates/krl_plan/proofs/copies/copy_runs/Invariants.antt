use Rattle.krl_plan.proofs.Common.{◌++◌, ◌≡◌, left, steps}
use Rattle.krl_plan.proofs.copies.copy_runs.Given as goal

abbrev pub invariant-loop-next : goal.invariant-loop-next
invariant-loop-next g l =
    let spans = g.S.Spans.spans l.set in
    l.runs.items ++ left l.next spans ≡ l.initial.runs.items ++ left l.fn.from spans

abbrev pub decreases-loop-next : goal.decreases-loop-next
decreases-loop-next g l = steps l.next (g.S.Spans.spans l.set)
