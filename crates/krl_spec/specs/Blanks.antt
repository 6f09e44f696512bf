-- The content of a line.
use Rattle.std.specs.Prelude.{ℕ, ◌-◌, ◌==◌, Bool, List, length, take, drop}
use Rattle.std.specs.List.{before_first, prefix_len, suffix_len}
use Rattle.ssh_wire.specs.Ascii.{number_sign}
use Rattle.key_text.specs.Blanks.{before_ending, is_blank, is_ending}

-- without the blanks and carriage returns at its start
unfoldable pub after_endings : List ℕ → List ℕ
after_endings text = drop (prefix_len is_ending text) text

-- without the blanks at its end
unfoldable pub before_blanks : List ℕ → List ℕ
before_blanks text = take (length text - suffix_len is_blank text) text

abbrev pub is_hash : ℕ → Bool
is_hash byte = byte == number_sign

-- The content of a line: without a `#` and what follows it, and without the blanks and carriage
-- returns at both ends.
unfoldable pub bare_line : List ℕ → List ℕ
bare_line line = before_ending (after_endings (before_first is_hash line))
