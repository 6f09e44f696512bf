-- The bytes left out so far pass the test.
use Rattle.std.proofs.Common.{◌≡◌, ℕ, ◌<◌, ◌≤◌, true, length, get_or}
use Rattle.audit_lines.specs.Front.{is_slash}
use Rattle.audit_lines.proofs.front.before_slashes.Given as goal

abbrev pub invariant-loop-end : goal.invariant-loop-end
invariant-loop-end l = (l.end ≤ length l.path) × ((k : ℕ) → l.end ≤ k → k < length l.path → is_slash (get_or l.path k 0) ≡ true)

abbrev pub decreases-loop-end : goal.decreases-loop-end
decreases-loop-end l = l.end
