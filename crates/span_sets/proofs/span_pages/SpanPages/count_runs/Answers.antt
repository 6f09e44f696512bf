use Rattle.span_sets.proofs.Common.{◌<◌, ◌∙◌, ◌≡◌, ap, arith, chunks_held, drop, left, length}
use Rattle.span_sets.proofs.Common.{length-drop, length-take, piece_of, runs_few, runs_of}
use Rattle.span_sets.proofs.Common.{runs_of_chunks, since, since_same, Some, steps, subst, sym}
use Rattle.span_sets.proofs.Common.{iteration_ends, iteration_continues}
use Rattle.span_sets.proofs.MemberIteration.{serials_of}
use Rattle.span_sets.proofs.span_pages.SpanPages.count_runs.Goals as goal

pub loop-next-init : goal.loop-next-init
loop-next-init c =
    let set = c.args.self.now in
    let es = chunks_held set in
    omega (arith, ap length (since_same 0 (runs_of es) (runs_of_chunks es set.order).0))

pub overflow_add-count : goal.overflow_add-count
overflow_add-count c =
    let set = c.args.self.now in
    let es = chunks_held set in
    let spans = runs_of es in
    let at = c.in-Some.at in
    let piece = piece_of c.runs_from-piece.result in
    let fits = serials_of es set.order set.serials in
    let few = runs_few spans (runs_of_chunks es set.order).0 fits in
    let here = ap (λ n. length (left n spans)) c.in-Some.is in
    let size = ap length c.runs_from-piece.ensures.front in
    omega (arith, few, here, size, length-take (length piece) (since at spans), ap length c.as_slice.ensures.runs, c.loop-next.invariant)

pub loop-next-smaller : goal.loop-next-smaller
loop-next-smaller c =
    let set = c.args.self.now in
    let es = chunks_held set in
    let spans = runs_of es in
    let at = c.in-Some.at in
    let ends = iteration_ends spans (piece_of c.runs_from-piece.result) at (runs_of_chunks es set.order).0 (serials_of es set.order set.serials) c.runs_from-piece.ensures in
    subst (λ n. steps c.next-next.result spans < steps n spans) (sym c.in-Some.is)
    (subst (λ n. steps n spans < steps (Some at) spans) (sym c.next-next.ensures) ends)

pub loop-next-preserved : goal.loop-next-preserved
loop-next-preserved c =
    let set = c.args.self.now in
    let es = chunks_held set in
    let spans = runs_of es in
    let at = c.in-Some.at in
    let piece = piece_of c.runs_from-piece.result in
    let on = iteration_continues spans piece at (runs_of_chunks es set.order).0 (serials_of es set.order set.serials) c.runs_from-piece.ensures in
    let rest : left c.next-next.result spans ≡ drop (length piece) (since at spans) = ap (λ n. left n spans) c.next-next.ensures ∙ on in
    let here = ap (λ n. length (left n spans)) c.in-Some.is in
    let size = ap length c.runs_from-piece.ensures.front in
    omega (arith, here, size, length-take (length piece) (since at spans), ap length rest, length-drop (length piece) (since at spans), ap length c.as_slice.ensures.runs, c.loop-next.invariant)
