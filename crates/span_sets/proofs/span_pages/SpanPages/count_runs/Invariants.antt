use Rattle.span_sets.proofs.Common.{◌+◌, ◌≡◌, chunks_held, left, length, runs_of, steps}
use Rattle.span_sets.proofs.span_pages.SpanPages.count_runs.Given as goal

abbrev pub invariant-loop-next : goal.invariant-loop-next
invariant-loop-next l =
    l.count + length (left l.next (runs_of (chunks_held l.self)))
    ≡ length (runs_of (chunks_held l.self))

abbrev pub decreases-loop-next : goal.decreases-loop-next
decreases-loop-next l = steps l.next (runs_of (chunks_held l.self))
