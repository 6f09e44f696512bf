use Rattle.krl_plan.proofs.Common.{◌++◌, ◌+◌, ◌∙◌, ◌≡◌, ap, drop, get_or, Group, group_text}
use Rattle.krl_plan.proofs.Common.{IsGroup, IsRuns, left, List, plan_text, refl, Serials, since}
use Rattle.krl_plan.proofs.Common.{since_same, Span, subst, sym, take, ℕ}
use Rattle.krl_plan.proofs.ChosenGroups.{RunsFrom-take}
use Rattle.krl_plan.proofs.CopiedRuns.{copied_first}
use Rattle.krl_plan.proofs.PlanTexts.{Putting, Putting-more, next_group}
use Rattle.krl_plan.proofs.plan_text.put_plan.Goals as goal

abbrev zero_group : Group
zero_group = record { sort = Serials; count = 0 }

pub loop-group-init : goal.loop-group-init
loop-group-init g c =
    let spans = g.S.Spans.spans c.args.set.now in
    let rises = (g.met.S.Spans.law c.args.set.now).0 in
    rw (ap (λ (l : List Span). l ++ since 0 spans) c.new-runs.ensures.items ∙ since_same 0 spans rises) (record { rises = rises; is_plan = c.requires; text = refl })

pub put_group-requires-clause-rising : goal.put_group-requires-clause-rising
put_group-requires-clause-rising g c =
    let spans = g.S.Spans.spans c.args.set.now in
    let rest : List Span = c.loop-group.runs.items ++ left c.loop-group.next spans in
    let group = get_or c.args.plan.now c.loop-group.group-index zero_group in
    let is : IsGroup rest group = next_group rest c.args.plan.now c.loop-group.out.items (c.args.out.now.items ++ plan_text spans c.args.plan.now) c.loop-group.group-index zero_group c.loop-group-test.true c.loop-group.invariant in
    let first = copied_first spans c.loop-group.runs.items c.copy_runs.new.runs.items group.count c.loop-group.next c.in_ok-next.next c.in_ok-next.ensures is.within in
    subst IsRuns (sym (ap (take group.count) c.deref.ensures.value ∙ first.1)) (RunsFrom-take 0 group.count rest c.loop-group.invariant.rises)

pub loop-group-preserved : goal.loop-group-preserved
loop-group-preserved g c =
    let spans = g.S.Spans.spans c.args.set.now in
    let plan = c.args.plan.now in
    let done = c.loop-group.group-index in
    let whole : List ℕ = c.args.out.now.items ++ plan_text spans plan in
    let rest : List Span = c.loop-group.runs.items ++ left c.loop-group.next spans in
    let group = get_or plan done zero_group in
    let is : IsGroup rest group = next_group rest plan c.loop-group.out.items whole done zero_group c.loop-group-test.true c.loop-group.invariant in
    let first = copied_first spans c.loop-group.runs.items c.copy_runs.new.runs.items group.count c.loop-group.next c.in_ok-next.next c.in_ok-next.ensures is.within in
    let put : c.put_group.new.out.items ≡ c.loop-group.out.items ++ group_text group.sort (take group.count rest) =
    rw c.in_ok-put_group.ensures (ap (λ (l : List Span). c.loop-group.out.items ++ group_text group.sort l) (ap (take group.count) c.deref.ensures.value ∙ first.1)) in
    rw (c.drop_first.ensures, put) (subst (λ (l : List Span). Putting l (drop (done + 1) plan) (c.loop-group.out.items ++ group_text group.sort (take group.count rest)) whole) (sym first.2)
    (Putting-more rest plan c.loop-group.out.items whole done zero_group c.loop-group-test.true c.loop-group.invariant))
