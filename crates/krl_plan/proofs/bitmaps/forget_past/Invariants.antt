use Rattle.krl_plan.proofs.Common.{◌<◌, ◌≡◌, ◌≤◌, Forgets, get_or, length, MonotonicQueue, ℕ}
use Rattle.krl_plan.proofs.bitmaps.forget_past.Given as goal

abbrev pub invariant-loop-i : goal.invariant-loop-i
invariant-loop-i l = record {
  done : (k : ℕ) (d : MonotonicQueue) → k < l.i → k < length l.initial.queues → Forgets l.limit (get_or l.initial.queues k d).candidates.items (get_or l.queues k d).candidates.items;
  unchanged : (k : ℕ) (d : MonotonicQueue) → l.i ≤ k → get_or l.queues k d ≡ get_or l.initial.queues k d;
}
