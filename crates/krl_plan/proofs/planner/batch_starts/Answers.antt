use Rattle.krl_plan.proofs.Common.{◌*◌, ◌∙◌, ◌≡◌, ap, arith, drop, left, length, since, since_same}
use Rattle.krl_plan.proofs.Common.{sym, take}
use Rattle.krl_plan.proofs.CopiedRuns.{batch_ends, batch_passed, starts_more}
use Rattle.krl_plan.proofs.planner.batch_starts.Goals as goal

pub loop-next-init : goal.loop-next-init
loop-next-init g c =
    let law = g.met.S.Spans.law c.args.set.now in
    rw c.new-starts.ensures.items (record { begin = λ i lt. absurd (omega arith); rest = since_same 0 _ law.0 })

pub loop-next-smaller : goal.loop-next-smaller
loop-next-smaller g c =
    let law = g.met.S.Spans.law c.args.set.now in
    let batch : c.deref.result.now ≡ take 1024 (since c.in-Some.number (g.S.Spans.spans c.args.set.now)) = rw c.deref.ensures.value c.in_ok-copy_batch.ensures in
    rw (c.in-Some.is, c.next_after-next.ensures) (batch_ends (g.S.Spans.spans c.args.set.now) c.deref.result.now c.in-Some.number law.0 law.1 batch)

pub loop-next-preserved : goal.loop-next-preserved
loop-next-preserved g c =
    let spans = g.S.Spans.spans c.args.set.now in
    let law = g.met.S.Spans.law c.args.set.now in
    let starts = c.loop-next.starts.items in
    let at : since c.in-Some.number spans ≡ drop (1024 * length starts) spans = ap (λ next. left next spans) (sym c.in-Some.is) ∙ c.loop-next.invariant.rest in
    let batch : c.deref.result.now ≡ take 1024 (since c.in-Some.number spans) = rw c.deref.ensures.value c.in_ok-copy_batch.ensures in
    rw (c.in_ok-push.ensures.items, c.next_after-next.ensures) (record {
      begin = starts_more spans starts c.in-Some.number c.loop-next.invariant.begin at;
      rest = batch_passed spans c.deref.result.now starts c.in-Some.number law.0 law.1 batch at;
    })

pub returns : goal.returns
returns g c = record { begin = c.loop-next.invariant.begin; all = sym c.loop-next.invariant.rest ∙ ap (λ next. left next (g.S.Spans.spans c.args.set.now)) c.in_default.is }
