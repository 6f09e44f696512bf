use Rattle.span_sets.proofs.Common.{◌-◌, ◌≡◌, ◌≤◌, chunks_held, drop, left, runs_of, steps}
use Rattle.span_sets.proofs.span_pages.SpanPages.run_at.Given as goal

abbrev pub invariant-loop-next : goal.invariant-loop-next
invariant-loop-next l =
    (l.rest ≤ l.fn.at)
    × (left l.next (runs_of (chunks_held l.self))
    ≡ drop (l.fn.at - l.rest) (runs_of (chunks_held l.self)))

abbrev pub decreases-loop-next : goal.decreases-loop-next
decreases-loop-next l = steps l.next (runs_of (chunks_held l.self))
