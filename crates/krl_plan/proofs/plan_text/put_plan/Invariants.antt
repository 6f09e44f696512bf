use Rattle.krl_plan.proofs.Common.{◌++◌, drop, left, plan_text}
use Rattle.krl_plan.proofs.PlanTexts.{Putting}
use Rattle.krl_plan.proofs.plan_text.put_plan.Given as goal

abbrev pub invariant-loop-group : goal.invariant-loop-group
invariant-loop-group g l =
    let spans = g.S.Spans.spans l.set in
    Putting (l.runs.items ++ left l.next spans) (drop l.group-index l.plan) l.out.items (l.initial.out.items ++ plan_text spans l.plan)
