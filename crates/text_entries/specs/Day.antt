-- The last day of an entry (krl(1), THE TEXT OF A LIST).
use Rattle.std.specs.Prelude.{ℕ, ℤ, pos, ◌+◌, ◌-◌, ◌*◌, ◌==◌, ◌&&◌, ◌||◌, not, nat_lt, int_lt}
use Rattle.std.specs.Prelude.{Bool, true, false, if◌then◌else◌, List, [], ◌∷◌, length, take, drop}
use Rattle.std.specs.Prelude.{codes, slice_index, Option, Some, None}
use Rattle.std.specs.Char.{is_ascii_digit}
use Rattle.std.specs.List.{list_all, position_or_len}
use Rattle.std.specs.Str.{str_eq_ignore_ascii_case}
use Rattle.jiff_core.specs.Calendar.{days_from_civil, days_in_month}
use Rattle.key_text.specs.Blanks.{after_blanks, is_blank}
use Rattle.krl_spec.specs.Blanks.{is_hash}
use Rattle.ssh_wire.specs.Ascii.{digit_zero, hyphen}
use Rattle.text_entries.specs.Misspelt.{is_word_end}

-- ---- a day

-- the number of two digits
abbrev pub two_at : (text : List ℕ) → (at : ℕ) → ℕ
two_at text at =
    (slice_index text at - digit_zero) * 10 + (slice_index text (at + 1) - digit_zero)

-- four digits, two and two, with hyphens between them
unfoldable pub is_dated : List ℕ → Bool
is_dated text =
    length text == 10
    && (slice_index text 4 == hyphen && (slice_index text 7 == hyphen
    && (list_all is_ascii_digit (take 4 text)
    && (list_all is_ascii_digit (take 2 (drop 5 text)) && list_all is_ascii_digit (drop 8 text)))))

-- The calendar has this day, in a year of four digits.
abbrev pub is_date : (year month day : ℕ) → Bool
is_date year month day =
    nat_lt year 10_000
    && (nat_lt 0 month && (nat_lt month 13
    && (nat_lt 0 day && not (nat_lt (days_in_month (pos year) month) day))))

abbrev pub day_of : (year month day : ℕ) → Option ℤ
day_of year month day =
    if is_date year month day then Some (days_from_civil (pos year) month day) else None

-- a day that is written as YYYY-MM-DD, by its number from 1970-01-01 on
unfoldable pub day_in : List ℕ → Option ℤ
day_in text =
    if is_dated text
    then day_of (two_at text 0 * 100 + two_at text 2) (two_at text 5) (two_at text 8)
    else None

-- The day counts whole.
abbrev pub is_over : (today : ℕ) → (day : ℤ) → Bool
is_over today day = int_lt day (pos today)

-- ---- the day that content begins with

-- a word that means a last day, in upper or lower case
abbrev pub is_until : List ℕ → Bool
is_until word = str_eq_ignore_ascii_case word (codes "until")

abbrev pub lower_u : ℕ
lower_u = 117

abbrev pub upper_u : ℕ
upper_u = 85

abbrev pub is_u : ℕ → Bool
is_u byte = byte == lower_u || byte == upper_u

-- what is behind the word and blanks, where content begins with them
abbrev pub until_first : (content : List ℕ) → Option (List ℕ)
until_first content =
    if nat_lt 5 (length content)
    && (is_until (take 5 content) && is_blank (slice_index content 5))
    then Some (after_blanks (drop 6 content))
    else None

unfoldable pub until_in : (content : List ℕ) → Option (List ℕ)
until_in [] = None
until_in (byte ∷ bytes) = if is_u byte then until_first (byte ∷ bytes) else None

-- the rest does not belong to the word before it
abbrev pub is_apart : List ℕ → Bool
is_apart [] = true
is_apart (byte ∷ bytes) = is_blank byte

-- the last day behind its word
abbrev pub last_day : (behind : List ℕ) → Option ℤ
last_day behind = if is_apart (drop 10 behind) then day_in (take 10 behind) else None

-- the content that has a last day
abbrev pub dated_content : (behind : List ℕ) → List ℕ
dated_content behind = after_blanks (drop 10 behind)

abbrev pub undated_from : (content : List ℕ) → (behind : Option (List ℕ)) → List ℕ
undated_from content None = content
undated_from content (Some behind) = dated_content behind

-- content without the last day that it begins with
abbrev pub undated : (content : List ℕ) → List ℕ
undated content = undated_from content (until_in content)

-- ---- a date where it ends nothing

-- what is behind colons, equals signs and blanks
unfoldable pub after_word_ends : List ℕ → List ℕ
after_word_ends [] = []
after_word_ends (byte ∷ bytes) =
    if is_word_end byte then after_word_ends bytes else byte ∷ bytes

-- The text begins with the word and a date. The calendar may not have it, and it was meant.
abbrev pub begins_with_day : List ℕ → Bool
begins_with_day text =
    is_until (take 5 text) && is_dated (take 10 (after_word_ends (drop 5 text)))

-- The word and a date are somewhere in the text.
unfoldable pub says_until : List ℕ → Bool
says_until [] = false
says_until (byte ∷ bytes) = begins_with_day (byte ∷ bytes) || says_until bytes

-- They are in the comment of a line.
abbrev pub has_day_in_comment : (line : List ℕ) → Bool
has_day_in_comment line = says_until (drop (position_or_len is_hash line) line)
