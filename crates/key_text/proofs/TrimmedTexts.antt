-- A text is not longer after blanks at its ends are removed.
use Rattle.std.proofs.Common.{ℕ, ◌-◌, ◌≤◌, List, length, arith}
use Rattle.std.proofs.lemmas.List.{length-drop, length-take}
use Rattle.std.specs.List.{prefix_len, suffix_len}
use Rattle.key_text.specs.Blanks.{after_blanks, before_ending, is_blank, is_ending, trimmed}

pub length-after_blanks : (text : List ℕ) → length (after_blanks text) ≤ length text
unfolding after_blanks
length-after_blanks text = omega (arith, length-drop (prefix_len is_blank text) text)

pub length-before_ending : (text : List ℕ) → length (before_ending text) ≤ length text
unfolding before_ending
length-before_ending text =
    omega (arith, length-take (length text - suffix_len is_ending text) text)

pub length-trimmed : (text : List ℕ) → length (trimmed text) ≤ length text
unfolding trimmed
length-trimmed text =
    omega (arith, length-before_ending (after_blanks text), length-after_blanks text)
