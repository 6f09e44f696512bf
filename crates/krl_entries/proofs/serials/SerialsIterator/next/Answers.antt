-- The first run of the next piece comes, and then its others.
use Rattle.serial_set.specs.Iteration.{IsPiece, left, next_of, piece_of}
use Rattle.krl_entries.specs.Serials.{runs_in}
use Rattle.krl_entries.proofs.Common.{arith, ◌++◌, ◌∙◌, ◌≡◌, ◌∷◌, ap, Bor, drop, Option, subst, sym}
use Rattle.krl_entries.proofs.SerialsLeft.{fetched, progress}
use Rattle.krl_entries.proofs.serials.SerialsIterator.next.Goals as goal

pub returns-clause-steps : goal.returns-clause-steps
returns-clause-steps g c =
    let set = c.in_ok-set.set.now in
    let law = g.met.S.Spans.law set in
    let spans = g.S.Spans.spans set in
    let inside = c.self.inside in
    let n = c.in_ok-number.number in
    let on = c.next-self-inside.ensures ∙ ap next_of (sym c.as_slice-2.ensures.runs) in
    let is = subst (IsPiece spans n) (sym c.as_slice-2.ensures.runs) c.piece_from-self-inside.ensures in
    let fetch = fetched spans c.as_slice.result.now c.as_slice-2.result.now inside.returned n inside.next c.next-self-inside.result c.in_ok-first.first.now law.0 law.1 (omega (arith, c.in_default.ensures.lookup)) c.in_ok-number.was is on (sym c.in_ok-first.ensures.value) in
    let same = rw (c.as_slice.ensures.runs, c.as_slice-2.ensures.runs) at fetch in
    sym c.self.view_is
    ∙ subst (λ (o : Option (Bor g.row.S.Denot)). drop inside.returned (piece_of inside.piece) ++ left inside.next (runs_in g.S.Spans.spans o) ≡ c.in_ok-first.first.now ∷ (drop 1 (piece_of c.piece_from-self-inside.result) ++ left c.next-self-inside.result (runs_in g.S.Spans.spans o)))
    (sym c.in_ok-set.was) same

pub returns-clause-goes : goal.returns-clause-goes
returns-clause-goes g c = progress (λ xs. xs) _ (λ _. tt) _ _ _ _ (returns-clause-steps g c)
