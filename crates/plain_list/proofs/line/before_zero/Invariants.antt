use Rattle.std.proofs.Common.{◌≡◌, ℕ, ◌<◌, ◌==◌, false, get_or}
use Rattle.plain_list.proofs.line.before_zero.Given as goal

-- no zero byte so far
abbrev pub invariant-loop-at : goal.invariant-loop-at
invariant-loop-at l = (k : ℕ) → k < l.at → (get_or l.line k 0 == 0) ≡ false
