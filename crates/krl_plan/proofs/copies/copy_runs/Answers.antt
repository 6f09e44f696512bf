use Rattle.krl_plan.proofs.Common.{◌∙◌, ap, IsPiece, next_of, subst, sym, iteration_ends}
use Rattle.krl_plan.proofs.CopiedRuns.{copied_more}
use Rattle.krl_plan.proofs.copies.copy_runs.Goals as goal

pub loop-next-smaller : goal.loop-next-smaller
loop-next-smaller g c =
    let spans = g.S.Spans.spans c.args.set.now in
    let law = g.met.S.Spans.law c.args.set.now in
    rw (c.in-Some.is, c.next-next.ensures) (iteration_ends spans _ c.in-Some.number law.0 law.1 c.piece_from-piece.ensures)

pub loop-next-preserved : goal.loop-next-preserved
loop-next-preserved g c =
    let spans = g.S.Spans.spans c.args.set.now in
    let law = g.met.S.Spans.law c.args.set.now in
    let p = subst (IsPiece spans c.in-Some.number) (sym c.as_slice.ensures.runs) c.piece_from-piece.ensures in
    copied_more spans c.loop-next.runs.items _ c.as_slice.result.now _ c.in-Some.number c.loop-next.next _ law.0 law.1 p c.in-Some.is (c.next-next.ensures ∙ ap next_of (sym c.as_slice.ensures.runs))
    c.in_ok-extend_from_slice.ensures.items c.loop-next.invariant
