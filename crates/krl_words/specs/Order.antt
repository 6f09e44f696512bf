-- Whether a file is named between two uses of -s. Words that can be parsed are options, each a
-- hyphen and letters, files, and values of options.
use Rattle.std.specs.Prelude.{ℕ, ◌==◌, ◌&&◌, ◌||◌, not, Bool, true, false, List, [], ◌∷◌, Option}
use Rattle.std.specs.Prelude.{None, Some, codes, is_some, length, fold, if◌then◌else◌}
use Rattle.std.specs.Option.{option_map_or}
use Rattle.option_table.specs.Argument.{letter_of}
use Rattle.krl_words.specs.declared.order.Context.{Context}
use Rattle.krl_words.specs.declared.order.Letters.{Letters}

abbrev pub hyphen : ℕ
hyphen = 45

-- an option with a value: -f, -E, -s or -z
abbrev pub takes_value : ℕ → Bool
takes_value letter = letter == letter_of (codes "f")
    || (letter == letter_of (codes "E")
    || (letter == letter_of (codes "s") || letter == letter_of (codes "z")))

-- one more letter of a word: the first option with a value takes the letters that follow it
abbrev pub option_by : Letters → ℕ → Option ℕ → Letters
option_by letters letter None =
    if takes_value letter then record letters { option = Some letter } else letters
option_by letters letter (Some option) = record letters { has_value = true }

abbrev pub letter_met : Letters → ℕ → Letters
letter_met letters letter = option_by letters letter letters.option

abbrev pub letters_met : ℕ → List ℕ → Letters
letters_met first rest = fold letter_met
    (letter_met (record { option = None; has_value = false }) first) rest

abbrev pub is_authority : Letters → Bool
is_authority letters =
    option_map_or (λ letter. letter == letter_of (codes "s")) letters.option false

-- a word with these options: another -s divides the files if one precedes it that follows a -s
abbrev pub authority_met : Context → Letters → Context
authority_met place letters = record place {
  is_value = is_some letters.option && not letters.has_value;
  has_authority = place.has_authority || is_authority letters;
  is_divided = place.is_divided || (is_authority letters && place.has_file);
}

abbrev pub file_met : Context → Context
file_met place = record place { has_file = place.has_authority }

-- a word that is neither a value nor after `--`
abbrev pub other_met : Context → List ℕ → Context
other_met place [] = file_met place
other_met place (first ∷ []) = file_met place
other_met place (first ∷ second ∷ rest) =
    if first == hyphen && second == hyphen then record place { is_file = length rest == 0 }
    else (if first == hyphen then authority_met place (letters_met second rest) else file_met place)

-- what precedes the word after this one
abbrev pub word_met : Context → List ℕ → Context
word_met place word =
    if place.is_value then record place { is_value = false }
    else (if place.is_file then file_met place else other_met place word)

-- the program's name is skipped as a value is
abbrev pub start : Context
start = record {
  is_value = true;
  is_file = false;
  has_authority = false;
  has_file = false;
  is_divided = false;
}

abbrev pub is_divided : List (List ℕ) → Bool
is_divided words = (fold word_met start words).is_divided
