use Rattle.span_sets.proofs.Common.{◌-◌, ◌<◌, ◌≤◌, chunks_held, Covers, members_of, ℕ}
use Rattle.span_sets.proofs.span_pages.SpanPages.first_member.Given as goal

abbrev pub invariant-loop-first : goal.invariant-loop-first
invariant-loop-first l =
    (l.fn.number ≤ l.at)
    × ((s : ℕ) → l.fn.number ≤ s → s < l.at → Covers (members_of (chunks_held l.self)) s → ⊥)

abbrev pub decreases-loop-first : goal.decreases-loop-first
decreases-loop-first l = 18446744073709551616 - l.at
