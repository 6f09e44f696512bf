-- Words and fields of a text.
use Rattle.std.specs.Prelude.{◌≡◌, ℕ, Bool, true, not, ◌+◌, ◌==◌, List, map, take, drop, codes}
use Rattle.std.specs.Prelude.{Option}
use Rattle.std.specs.Prelude.{option_map, position}
use Rattle.std.specs.Borrow.{Bor}
use Rattle.std.specs.Char.{to_ascii_lowercase}
use Rattle.std.specs.List.{list_all}
use Rattle.std.specs.Str.{bytes_eq}
use Rattle.ssh_wire.specs.Ascii.{space}

abbrev pub parts : Bor (List ℕ) × Bor (List ℕ) → List ℕ × List ℕ
parts p = (p.0.now, p.1.now)

abbrev pub texts : List (Bor (List ℕ)) → List (List ℕ)
texts borrowed = map (λ text. text.now) borrowed

abbrev pub is_space : ℕ → Bool
is_space byte = byte == space

-- the text before the first separator, and the text after it
unfoldable pub split_around : ℕ → List ℕ → Option (List ℕ × List ℕ)
split_around separator text =
    option_map (λ at. (take at text, drop (at + 1) text))
    (position (λ byte. byte == separator) text)

-- a text has no separator
abbrev pub IsFree : ℕ → List ℕ → Type 0
IsFree separator text = list_all (λ byte. not (byte == separator)) text ≡ true

-- the word `none`, in upper or lower case
unfoldable pub is_none_word : List ℕ → Bool
is_none_word word = bytes_eq (map to_ascii_lowercase word) (codes "none")
