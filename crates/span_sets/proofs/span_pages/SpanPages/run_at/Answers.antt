use Rattle.span_sets.proofs.Common.{◌+◌, ◌-◌, ◌<◌, ◌∙◌, ◌≡◌, ap, arith, chunks_held, drop}
use Rattle.span_sets.proofs.Common.{drop-drop, get_or, get_or-drop, get_or-take, left, length}
use Rattle.span_sets.proofs.Common.{length-drop, piece_of, runs_of, runs_of_chunks, since}
use Rattle.span_sets.proofs.Common.{since_same, Some, Span, steps, subst, sym, take, iteration_ends}
use Rattle.span_sets.proofs.Common.{iteration_continues}
use Rattle.std.proofs.lemmas.Option.{slice_get-get_or}
use Rattle.span_sets.proofs.MemberIteration.{serials_of}
use Rattle.span_sets.proofs.span_pages.SpanPages.run_at.Goals as goal

pub loop-next-init : goal.loop-next-init
loop-next-init c =
    let set = c.args.self.now in
    let es = chunks_held set in
    let zero : 0 ≡ c.args.at - c.args.at = omega arith in
    (omega arith, since_same 0 (runs_of es) (runs_of_chunks es set.order).0 ∙ ap (λ n. drop n (runs_of es)) zero)

pub returns-then-rest-runs : goal.returns-then-rest-runs
returns-then-rest-runs c =
    let spans = runs_of (chunks_held c.args.self.now) in
    let at = c.args.at in
    let rest = c.loop-next.rest in
    let runs = c.as_slice-runs.result.now in
    let piece = piece_of c.runs_from-piece.result in
    let none : Span = record { lo = 0; hi = 0 } in
    let here : since c.in-Some.number spans ≡ drop (at - rest) spans = sym (ap (λ n. left n spans) c.in-Some.is) ∙ c.loop-next.invariant.1 in
    let same : runs ≡ take (length piece) (drop (at - rest) spans) =
    c.as_slice-runs.ensures.runs ∙ c.runs_from-piece.ensures.front ∙ ap (take (length piece)) here in
    let inside : rest < length piece = omega (arith, ap length c.as_slice-runs.ensures.runs) in
    let position : at - rest + rest ≡ at = omega (arith, c.loop-next.invariant.0) in
    let read : get_or runs rest none ≡ get_or spans at none =
    ap (λ l. get_or l rest none) same
    ∙ get_or-take (length piece) (drop (at - rest) spans) rest none inside
    ∙ get_or-drop (at - rest) spans rest none
    ∙ ap (λ n. get_or spans n none) position in
    slice_get-get_or spans at none c.requires ∙ ap (λ (x : Span). Some x) (sym read)

pub loop-next-smaller : goal.loop-next-smaller
loop-next-smaller c =
    let set = c.args.self.now in
    let es = chunks_held set in
    let spans = runs_of es in
    let at = c.in-Some.number in
    let ends = iteration_ends spans (piece_of c.runs_from-piece.result) at (runs_of_chunks es set.order).0 (serials_of es set.order set.serials) c.runs_from-piece.ensures in
    subst (λ n. steps c.next-next.result spans < steps n spans) (sym c.in-Some.is)
    (subst (λ n. steps n spans < steps (Some at) spans) (sym c.next-next.ensures) ends)

pub loop-next-preserved : goal.loop-next-preserved
loop-next-preserved c =
    let set = c.args.self.now in
    let es = chunks_held set in
    let spans = runs_of es in
    let at = c.in-Some.number in
    let piece = piece_of c.runs_from-piece.result in
    let rest = c.loop-next.rest in
    let len = length c.as_slice-runs.result.now in
    let on = iteration_continues spans piece at (runs_of_chunks es set.order).0 (serials_of es set.order set.serials) c.runs_from-piece.ensures in
    let here : since at spans ≡ drop (c.args.at - rest) spans = sym (ap (λ n. left n spans) c.in-Some.is) ∙ c.loop-next.invariant.1 in
    let size : length piece ≡ len = sym (ap length c.as_slice-runs.ensures.runs) in
    let position : c.args.at - rest + len ≡ c.args.at - (rest - len) = omega (arith, c.loop-next.invariant.0) in (
      omega (arith, c.loop-next.invariant.0),
      ap (λ n. left n spans) c.next-next.ensures
          ∙ on
          ∙ ap (λ l. drop (length piece) l) here
          ∙ ap (λ n. drop n (drop (c.args.at - rest) spans)) size
          ∙ drop-drop len (c.args.at - rest) spans
          ∙ ap (λ n. drop n spans) position,
    )

pub unreachable-requires : goal.unreachable-requires
unreachable-requires c =
    let spans = runs_of (chunks_held c.args.self.now) in
    let none = sym (ap (λ n. length (left n spans)) c.in_default.is) ∙ ap length c.loop-next.invariant.1 in
    omega (arith, none, length-drop (c.args.at - c.loop-next.rest) spans, c.loop-next.invariant.0)
