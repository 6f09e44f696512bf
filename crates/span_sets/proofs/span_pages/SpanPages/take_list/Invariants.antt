use Rattle.span_sets.proofs.Common.{chunks_held, drop, members_of, piece_of, Taken, ℕ}
use Rattle.span_sets.proofs.TakenRuns.{Rest}
use Rattle.span_sets.proofs.span_pages.SpanPages.take_list.Given as goal

abbrev pub invariant-loop-at : goal.invariant-loop-at
invariant-loop-at l =
    let es = chunks_held l.self in
    (at : ℕ) × (Taken (members_of es) l.number at (piece_of l.piece) × Rest es l.number at (drop l.at l.chunks))
