use Rattle.std.proofs.Common.{◌≡◌, ℕ, ◌<◌, true, get_or}
use Rattle.key_places.specs.Word.{is_symbol}
use Rattle.key_places.proofs.word.split_symbols.Given as goal

-- symbols so far
abbrev pub invariant-loop-i : goal.invariant-loop-i
invariant-loop-i l = (k : ℕ) → k < l.i → is_symbol (get_or l.text k 0) ≡ true
