use Rattle.std.proofs.Common.{◌≡◌, ℕ, ◌<◌, ◌≤◌, true, length, get_or}
use Rattle.login_lines.specs.Words.{is_no_parenthesis}
use Rattle.login_lines.proofs.words.group_start.Given as goal

-- no parenthesis opens in the bytes left out so far
abbrev pub invariant-loop-end : goal.invariant-loop-end
invariant-loop-end l =
    (l.end ≤ length l.text) × ((k : ℕ) → l.end ≤ k → k < length l.text → is_no_parenthesis (get_or l.text k 0) ≡ true)

abbrev pub decreases-loop-end : goal.decreases-loop-end
decreases-loop-end l = l.end
