use Rattle.krl_plan.proofs.Common.{◌+◌, ◌-◌, ◌<◌, ◌≡◌, ◌≤◌, Candidate, drop, get_or, length, ℕ}
use Rattle.krl_plan.proofs.monotonic_queue.drop_past.Given as goal

abbrev pub invariant-loop-oldest : goal.invariant-loop-oldest
invariant-loop-oldest l = record {
  back : l.candidates.items ≡ drop (length l.initial.candidates.items - length l.candidates.items) l.initial.candidates.items;
  few : length l.candidates.items ≤ length l.initial.candidates.items;
  past : (k : ℕ) (d : Candidate) → k + length l.candidates.items < length l.initial.candidates.items → l.limit < (get_or l.initial.candidates.items k d).position;
}

abbrev pub decreases-loop-oldest : goal.decreases-loop-oldest
decreases-loop-oldest l = length l.candidates.items
