-- Blanks, and words between them.
use Rattle.std.specs.Prelude.{◌≡◌, ℕ, Bool, false, not, ◌-◌, ◌<◌, ◌==◌, ◌||◌, List, [], ◌∷◌, length}
use Rattle.std.specs.Prelude.{take, drop}
use Rattle.std.specs.List.{AllPass, prefix_len, suffix_len, take_while}
use Rattle.ssh_wire.specs.Ascii.{carriage_return, space, tab}

-- a space or a tab
abbrev pub is_blank : ℕ → Bool
is_blank byte = (byte == space) || (byte == tab)

-- a blank or a carriage return
abbrev pub is_ending : ℕ → Bool
is_ending byte = is_blank byte || (byte == carriage_return)

-- without the blanks at its start
unfoldable pub after_blanks : List ℕ → List ℕ
after_blanks text = drop (prefix_len is_blank text) text

-- without the blanks and carriage returns at its end
unfoldable pub before_ending : List ℕ → List ℕ
before_ending text = take (length text - suffix_len is_ending text) text

unfoldable pub trimmed : List ℕ → List ℕ
trimmed text = before_ending (after_blanks text)

-- up to a blank or the end
unfoldable pub first_word : List ℕ → List ℕ
first_word text = take_while (λ byte. not (is_blank byte)) text

-- one blank or more
pub record AreBlanks (bytes : List ℕ) : Type 0 where
  pub some : 0 < length bytes
  pub each : AllPass is_blank bytes

abbrev pub BeginsWithNoBlank : List ℕ → Type 0
BeginsWithNoBlank [] = Unit {0}
BeginsWithNoBlank (byte ∷ bytes) = is_blank byte ≡ false

-- one byte or more, and none of them a blank
pub record IsWord (bytes : List ℕ) : Type 0 where
  pub some : 0 < length bytes
  pub each : AllPass (λ byte. not (is_blank byte)) bytes
