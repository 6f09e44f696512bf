-- No byte so far ends a word.
use Rattle.std.proofs.Common.{◌≡◌, ℕ, ◌<◌, false, get_or}
use Rattle.text_entries.specs.Misspelt.{is_word_end}
use Rattle.text_entries.proofs.misspelt.before_word_end.Given as goal

abbrev pub invariant-loop-at : goal.invariant-loop-at
invariant-loop-at l = (k : ℕ) → k < l.at → is_word_end (get_or l.line k 0) ≡ false
