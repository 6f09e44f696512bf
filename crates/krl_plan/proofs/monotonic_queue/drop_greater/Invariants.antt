use Rattle.krl_plan.proofs.Common.{◌<◌, ◌≡◌, ◌≤◌, Candidate, get_or, length, take, ℕ}
use Rattle.krl_plan.proofs.monotonic_queue.drop_greater.Given as goal

abbrev pub invariant-loop-newest : goal.invariant-loop-newest
invariant-loop-newest l = record {
  front : l.candidates.items ≡ take (length l.candidates.items) l.initial.candidates.items;
  few : length l.candidates.items ≤ length l.initial.candidates.items;
  past : (k : ℕ) (d : Candidate) → length l.candidates.items ≤ k → k < length l.initial.candidates.items → l.value < (get_or l.initial.candidates.items k d).value;
}

abbrev pub decreases-loop-newest : goal.decreases-loop-newest
decreases-loop-newest l = length l.candidates.items
