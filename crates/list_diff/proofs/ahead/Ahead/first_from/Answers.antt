-- The first run of a new piece.
use Rattle.list_diff.proofs.Common.{IsFirstFrom, List, refl, Span, spans_in, subst, sym, ◌≡◌}
use Rattle.list_diff.proofs.Searches.{piece_first, piece_follows}
use Rattle.serial_set.specs.Iteration.{IsPiece, piece_of}
use Rattle.list_diff.proofs.ahead.Ahead.first_from.Goals as goal

pub invariant_of-self-2 : goal.invariant_of-self-2
invariant_of-self-2 g c =
    let set = c.in_ok-set.set.now in
    rw c.in_ok-set.was (piece_follows (g.S.Spans.spans set) (piece_of c.piece_from-piece.result) c.args.number (g.met.S.Spans.law set).0 c.piece_from-piece.ensures)

pub returns-clause-first : goal.returns-clause-first
returns-clause-first g c =
    let set = c.in_ok-set.set.now in
    let spans = g.S.Spans.spans set in
    let number = c.args.number in
    let piece = subst (IsPiece spans number) (sym c.as_slice.ensures.runs) c.piece_from-piece.ensures in
    let own : spans_in g.S.Spans.spans c.self.inside.set ≡ spans = rw c.in_ok-set.was refl in
    let same : spans ≡ c.args.self.now = cc (own, c.self.view_is) in
    subst (λ (l : List Span). IsFirstFrom l number c.run_at-first.result) same (piece_first spans c.as_slice.result.now number c.run_at-first.result (g.met.S.Spans.law set).0 piece c.run_at-first.ensures)
