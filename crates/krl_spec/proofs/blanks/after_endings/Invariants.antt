use Rattle.std.proofs.Common.{◌≡◌, ℕ, ◌<◌, true, get_or}
use Rattle.key_text.specs.Blanks.{is_ending}
use Rattle.krl_spec.proofs.blanks.after_endings.Given as goal

-- blanks and carriage returns so far
abbrev pub invariant-loop-at : goal.invariant-loop-at
invariant-loop-at l = (k : ℕ) → k < l.at → is_ending (get_or l.text k 0) ≡ true
