-- The runs from the index on are the first ones from the number on.
use Rattle.list_diff.proofs.Common.{◌-◌, ◌≤◌, drop, Follows, length, List, Span, ℕ}
use Rattle.list_diff.proofs.window.count_ending_before.Given as goal

abbrev pub invariant-loop-at : goal.invariant-loop-at
invariant-loop-at l = (spans : List Span) (n : ℕ) → n ≤ l.number → Follows spans n (drop l.begin l.runs) → Follows spans l.number (drop l.at l.runs)

abbrev pub decreases-loop-at : goal.decreases-loop-at
decreases-loop-at l = length l.runs - l.at
