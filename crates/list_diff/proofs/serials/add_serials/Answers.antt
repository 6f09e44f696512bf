-- The piece's lost numbers are added, and those of the later pieces are left.
use Rattle.list_diff.proofs.Common.{ap, Gains, List, LostSerial, SerialWith, Span, spans_in, subst, sym, ◌∙◌}
use Rattle.list_diff.proofs.Gains.{owes_less, owes_none, serial_none, serial_parts}
use Rattle.list_diff.proofs.LostSerials.{lost_piece, none_lost, owes_start}
use Rattle.krl_entries.proofs.SerialsLeft.{piece_intervals}
use Rattle.serial_set.proofs.RunIteration.{iteration_ends}
use Rattle.serial_set.specs.Iteration.{IsPiece, left, next_of}
use Rattle.list_diff.proofs.serials.add_serials.Goals as goal

pub loop-next-init : goal.loop-next-init
loop-next-init g c =
    let spans = g.S.Spans.spans c.args.set.now in
    record {
      same = c.new-others.ensures;
      owes = owes_start c.args.gone.now c.args.authority.now spans (spans_in g.S.Spans.spans c.args.other) (g.met.S.Spans.law c.args.set.now).0;
    }

pub add_spans-requires : goal.add_spans-requires
add_spans-requires g c =
    let spans = g.S.Spans.spans c.args.set.now in
    let law = g.met.S.Spans.law c.args.set.now in
    let p = subst (IsPiece spans c.in-Some.number) (sym c.as_slice.ensures.runs) c.piece_from-piece.ensures in
    piece_intervals spans c.as_slice.result.now c.in-Some.number law.0 law.1 p

pub loop-next-preserved : goal.loop-next-preserved
loop-next-preserved g c =
    let i = c.loop-next.invariant in
    let a = c.args.authority.now in
    let spans = g.S.Spans.spans c.args.set.now in
    let others = spans_in g.S.Spans.spans c.args.other in
    let law = g.met.S.Spans.law c.args.set.now in
    let runs = c.as_slice.result.now in
    let p = subst (IsPiece spans c.in-Some.number) (sym c.as_slice.ensures.runs) c.piece_from-piece.ensures in
    let next = c.next-next.ensures ∙ ap next_of (sym c.as_slice.ensures.runs) in
    let gains = subst (λ (o : List Span). Gains c.loop-next.gone (SerialWith a (LostSerial runs o)) c.add_spans.new.gone) i.same c.in_ok-add_spans.ensures.gains in
    record {
      same = c.add_spans.ensures.same ∙ i.same;
      owes = owes_less _ _ _ _ _ _ _ i.owes gains (serial_parts a (LostSerial (left c.loop-next.next spans) others) (LostSerial runs others) (LostSerial (left c.next-next.result spans) others) (lost_piece spans runs others c.in-Some.number c.loop-next.next c.next-next.result law.0 law.1 c.in-Some.is p next));
    }

pub loop-next-smaller : goal.loop-next-smaller
loop-next-smaller g c =
    let spans = g.S.Spans.spans c.args.set.now in
    let law = g.met.S.Spans.law c.args.set.now in
    rw (c.in-Some.is, c.next-next.ensures) (iteration_ends spans _ c.in-Some.number law.0 law.1 c.piece_from-piece.ensures)

pub returns : goal.returns
returns g c = owes_none _ _ _ _ (rw c.in_default.is at c.loop-next.invariant.owes) (serial_none c.args.authority.now _ (none_lost (spans_in g.S.Spans.spans c.args.other)))
