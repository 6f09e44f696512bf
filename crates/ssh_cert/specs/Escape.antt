-- Texts as they are printed: each byte below 32, and 127, as its hexadecimal digits.
use Rattle.std.specs.Prelude.{ℕ, ◌/◌, ◌%◌, ◌==◌, ◌||◌, nat_lt, if◌then◌else◌, List, [], ◌∷◌}
use Rattle.std.specs.Prelude.{slice_index, codes}
use Rattle.std.specs.List.{flat_map}
use Rattle.ssh_wire.specs.Ascii.{backslash, delete, lower_x, space}

-- a digit below 16
abbrev pub hex_digit : ℕ → ℕ
hex_digit n = slice_index (codes "0123456789abcdef") n

-- `\x` and two hexadecimal digits
abbrev pub numbered : ℕ → List ℕ
numbered code = backslash ∷ lower_x ∷ hex_digit (code / 16) ∷ hex_digit (code % 16) ∷ []

unfoldable pub escaped_byte : ℕ → List ℕ
escaped_byte byte = if nat_lt byte space || byte == delete then numbered byte else byte ∷ []

unfoldable pub escaped : List ℕ → List ℕ
escaped text = flat_map escaped_byte text
