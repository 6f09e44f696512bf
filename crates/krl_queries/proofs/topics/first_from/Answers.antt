use Rattle.std.proofs.Common.{sym, ◌∙◌, arith, subst, eqb-true}
use Rattle.krl_queries.proofs.FirstSerials.{none_from, not_none, some_from}
use Rattle.serial_set.specs.Iteration.{IsPiece}
use Rattle.krl_queries.proofs.topics.first_from.Goals as goal

pub returns-then-is_empty : goal.returns-then-is_empty
returns-then-is_empty g c =
    let spans = g.S.Spans.spans c.args.set.now in
    let piece = subst (IsPiece spans c.args.lo) (sym c.as_slice-runs.ensures.runs) c.piece_from-piece.ensures in
    none_from spans c.as_slice-runs.result.now c.args.lo c.args.hi (g.met.S.Spans.law c.args.set.now).0 piece (eqb-true _ _ (sym c.is_empty.ensures ∙ c.if-is_empty.true))

pub returns-then-hi-first : goal.returns-then-hi-first
returns-then-hi-first g c = λ s low high h.
    let spans = g.S.Spans.spans c.args.set.now in
    let piece = subst (IsPiece spans c.args.lo) (sym c.as_slice-runs.ensures.runs) c.piece_from-piece.ensures in
    let first = some_from spans c.as_slice-runs.result.now c.args.lo (record { lo = 0; hi = 0 }) (g.met.S.Spans.law c.args.set.now).0 piece (not_none _ (sym c.is_empty.ensures ∙ c.if-is_empty.false)) in
    first.2 s low (omega (arith, high, c.if-hi-first.true)) h

pub returns-else-hi-first : goal.returns-else-hi-first
returns-else-hi-first g c =
    let spans = g.S.Spans.spans c.args.set.now in
    let piece = subst (IsPiece spans c.args.lo) (sym c.as_slice-runs.ensures.runs) c.piece_from-piece.ensures in
    let first = some_from spans c.as_slice-runs.result.now c.args.lo (record { lo = 0; hi = 0 }) (g.met.S.Spans.law c.args.set.now).0 piece (not_none _ (sym c.is_empty.ensures ∙ c.if-is_empty.false)) in
    (first.0, c.if-hi-first.false, first.1, first.2)
