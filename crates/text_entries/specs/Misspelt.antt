-- The misspelt word of a line, and what was meant.
use Rattle.std.specs.Prelude.{ℕ, ◌-◌, ◌==◌, ◌||◌, Bool, List, Option, option_map, slice_get}
use Rattle.std.specs.List.{before_first, find, slice_split}
use Rattle.std.specs.Str.{str_eq_ignore_ascii_case, str_to_ascii_lowercase}
use Rattle.ssh_wire.specs.Ascii.{colon, equals_sign}
use Rattle.key_text.specs.Blanks.{is_blank}
use Rattle.key_text.specs.Lines.{is_newline}
use Rattle.text_entries.specs.OneOff.{is_one_off}
use Rattle.text_entries.specs.Word.{name_of, words}
use Rattle.text_entries.specs.declared.word.Word.{Word}

-- They are the same or differ in one slip, where letters in upper and lower case count the same.
abbrev pub is_close : (given meant : List ℕ) → Bool
is_close given meant =
    str_eq_ignore_ascii_case given meant
    || is_one_off (str_to_ascii_lowercase given) (str_to_ascii_lowercase meant)

abbrev pub is_meant : Word → List ℕ → Bool
is_meant word name = is_close name (name_of word)

-- the first word that is the same or one slip off
unfoldable pub meant : List ℕ → Option Word
meant name = find (λ word. is_meant word name) words

-- what a line begins with instead of a word and a colon, and the name of the word that was meant
pub record Misspelt : Type 0 where
  pub word : List ℕ
  pub meant : List ℕ

abbrev pub misspelt : List ℕ → Word → Misspelt
misspelt name word = record { word = name; meant = name_of word }

abbrev pub misspelt_word : List ℕ → Option Misspelt
misspelt_word name = option_map (misspelt name) (meant name)

-- a misspelt word ends before a colon, an equals sign or a blank
abbrev pub is_word_end : ℕ → Bool
is_word_end byte = byte == colon || (byte == equals_sign || is_blank byte)

-- what a line's content begins with, up to the end of a word, if a word was meant
unfoldable pub misspelt_in : List ℕ → Option Misspelt
misspelt_in line = misspelt_word (before_first is_word_end line)

-- the line of a text with this number, which counts from 1
abbrev pub numbered_line : List ℕ → ℕ → Option (List ℕ)
numbered_line text number = slice_get (slice_split is_newline text) (number - 1)
