use Rattle.krl_core.proofs.Common.{◌∙◌, Adds, ap, List, refl, run_entries, Span, subst, sym, ℕ}
use Rattle.serial_set.specs.Iteration.{IsPiece, left, next_of}
use Rattle.serial_set.proofs.RunIteration.{iteration_ends, since_same}
use Rattle.krl_entries.proofs.Runs.{run_entries-append}
use Rattle.krl_entries.proofs.SerialsLeft.{piece_intervals, spans_left}
use Rattle.krl_core.proofs.GainedEntries.{gained_more, gained_none, gains_added, IsGained}
use Rattle.krl_core.proofs.field_store.FieldStore.add_set.Goals as goal

pub loop-next-init : goal.loop-next-init
loop-next-init g c =
    let spans = g.S.Spans.spans c.args.spans.now in
    let old = c.args.self.now in
    let all = since_same 0 spans (g.met.S.Spans.law c.args.spans.now).0 in
    record {
      gained = subst (λ (l : List Span). IsGained (run_entries old.authority) spans l old old) (sym all) (gained_none (run_entries old.authority) spans old refl);
      authority = refl;
    }

pub loop-next-smaller : goal.loop-next-smaller
loop-next-smaller g c =
    let spans = g.S.Spans.spans c.args.spans.now in
    let law = g.met.S.Spans.law c.args.spans.now in
    rw (c.in-Some.is, c.next-next.ensures) (iteration_ends spans _ c.in-Some.number law.0 law.1 c.piece_from-piece.ensures)

pub add_spans-requires : goal.add_spans-requires
add_spans-requires g c =
    let spans = g.S.Spans.spans c.args.spans.now in
    let law = g.met.S.Spans.law c.args.spans.now in
    piece_intervals spans c.as_slice.result.now c.in-Some.number law.0 law.1 (subst (IsPiece spans c.in-Some.number) (sym c.as_slice.ensures.runs) c.piece_from-piece.ensures)

pub loop-next-preserved : goal.loop-next-preserved
loop-next-preserved g c =
    let spans = g.S.Spans.spans c.args.spans.now in
    let law = g.met.S.Spans.law c.args.spans.now in
    let runs = c.as_slice.result.now in
    let old = c.args.self.now in
    let is = subst (IsPiece spans c.in-Some.number) (sym c.as_slice.ensures.runs) c.piece_from-piece.ensures in
    let then = spans_left spans runs c.in-Some.number c.loop-next.next c.next-next.result law.0 law.1 c.in-Some.is is (c.next-next.ensures ∙ ap next_of (sym c.as_slice.ensures.runs)) in
    let adds = subst (λ (a : List ℕ). Adds c.loop-next.self (run_entries a runs) c.add_spans.new.self) c.loop-next.invariant.authority c.in_ok-add_spans.ensures.adds in
    record {
      gained = gained_more (run_entries old.authority) spans runs (left c.next-next.result spans) old c.loop-next.self c.add_spans.new.self (run_entries-append old.authority)
          (rw then at c.loop-next.invariant.gained) (gains_added c.loop-next.self c.add_spans.new.self (run_entries old.authority runs) adds c.in_ok-add_spans.ensures.stored.scope_is);
      authority = adds.rest.authority_is ∙ c.loop-next.invariant.authority;
    }
