use Rattle.span_sets.proofs.Common.{◌-◌, ◌≤◌, chunks_held, members_of, piece_of, Reads, Taken, ℕ}
use Rattle.span_sets.proofs.span_pages.SpanPages.take_chunk.Given as goal

abbrev pub invariant-loop-chunk : goal.invariant-loop-chunk
invariant-loop-chunk l =
    let spans = members_of (chunks_held l.self) in
    (at : ℕ) × (Taken spans l.fn.number at (piece_of l.piece) × Reads spans at l.chunk l.from × (l.fn.number ≤ l.from))

abbrev pub decreases-loop-chunk : goal.decreases-loop-chunk
decreases-loop-chunk l = 18446744073709551616 - l.from
