-- The form that a line with a fault may be meant in.
use Rattle.std.specs.Prelude.{ℕ, ◌==◌, ◌&&◌, ◌||◌, not, nat_eq, Bool, if◌then◌else◌, List, [], ◌∷◌}
use Rattle.std.specs.Prelude.{codes, false, is_some, Option, Some, None, option_map}
use Rattle.std.specs.List.{before_first, ends_with, starts_with}
use Rattle.key_text.specs.declared.line_fault.LineFault.TheVariants as lines
use Rattle.keyed_lines.specs.declared.key_cause.KeyCause.TheVariants as keys
use Rattle.krl_spec.specs.Blanks.{bare_line}
use Rattle.run_faults.specs.declared.spec_cause.SpecCause.TheVariants as specs
use Rattle.key_text.specs.Blanks.{after_blanks}
use Rattle.text_entries.specs.Day.{says_until, undated}
use Rattle.text_entries.specs.Mark.{Mark, given_behind, mark_in, value_in}
use Rattle.text_entries.specs.Misspelt.{is_close, is_word_end, misspelt_in, numbered_line}
use Rattle.text_entries.specs.Named.{can_end, misspelt_behind, named_in}
use Rattle.text_entries.specs.Values.{has_blank, is_all, lacks_prefix}
use Rattle.text_entries.specs.Word.{order_in}
use Rattle.text_entries.specs.declared.hint.Hint.{Hint}
use Rattle.text_entries.specs.declared.hint.Hint.TheVariants.{Misspelt, Fingerprint, KeyFile}
use Rattle.text_entries.specs.declared.hint.Hint.TheVariants.{ByteOrderMark, Hexadecimal, Name}
use Rattle.text_entries.specs.declared.hint.Hint.TheVariants.{ColonBehindName, LastDay}
use Rattle.text_entries.specs.declared.hint.Hint.TheVariants.{NoLastDay}
use Rattle.text_entries.specs.declared.text_cause.TextCause.{TextCause}
use Rattle.text_entries.specs.declared.text_cause.TextCause.TheVariants as causes

-- ---- a line that begins neither with a word nor with a key

-- the byte order mark of UTF-8
abbrev pub byte_order_mark : List ℕ
byte_order_mark = 239 ∷ 187 ∷ 191 ∷ []

-- The first word is the one that means a last day, or one slip off.
abbrev pub means_until : (content : List ℕ) → Bool
means_until content = is_close (before_first is_word_end content) (codes "until")

-- A last day or a word may be misspelt.
abbrev pub spelling_hint : (content : List ℕ) → Option Hint
spelling_hint content =
    if means_until content then Some LastDay else option_map Misspelt (misspelt_in content)

-- The first line may begin with a byte order mark.
abbrev pub word_hint : (content : List ℕ) → (number : ℕ) → Option Hint
word_hint content number =
    if number == 1 && starts_with nat_eq content byte_order_mark then Some ByteOrderMark
    else spelling_hint content

-- ---- a line that lacks its key

-- one word that begins as a fingerprint
abbrev pub is_print : List ℕ → Bool
is_print text =
    (starts_with nat_eq text (codes "SHA256:") || starts_with nat_eq text (codes "SHA1:"))
    && not (has_blank text)

-- one word that ends as the name of a key's file, or begins as a path
abbrev pub is_file_name : List ℕ → Bool
is_file_name text =
    not (has_blank text)
    && (ends_with nat_eq text (codes ".pub") || (starts_with nat_eq text (codes "/")
    || (starts_with nat_eq text (codes "~") || starts_with nat_eq text (codes "."))))

-- what an entry behind the name of an authority may have
abbrev pub is_entry_value : (given : List ℕ) → Bool
is_entry_value given = is_some (order_in given) || is_all given

abbrev pub given_entry : (given : Option (List ℕ)) → Bool
given_entry None = false
given_entry (Some given) = is_entry_value given && not (is_print given)

-- A colon is between the name of an authority and an entry.
abbrev pub has_colon : Option Mark → Bool
has_colon None = false
has_colon (Some mark) = given_entry (given_behind mark.rest)

abbrev pub given_hint : (content : List ℕ) → (given : Option (List ℕ)) → Option Hint
given_hint content None = None
given_hint content (Some given) =
    if is_print content then Some Fingerprint
    else if is_file_name given then Some KeyFile
    else if has_colon (mark_in content) then Some ColonBehindName
    else None

-- A fingerprint without its word begins as `sha1:` and `sha256:` do, which need a key.
abbrev pub key_hint : (content : List ℕ) → Option Hint
key_hint content = given_hint content (value_in content)

-- ---- a line whose number is none, or has a leading zero

abbrev pub number_meant : (given : Option (List ℕ)) → Option Hint
number_meant None = None
number_meant (Some given) =
    if says_until given then Some LastDay
    else if lacks_prefix given then Some Hexadecimal
    else None

abbrev pub number_hint : (content : List ℕ) → Option Hint
number_hint content = number_meant (value_in content)

abbrev pub digits_meant : (given : Option (List ℕ)) → Option Hint
digits_meant None = None
digits_meant (Some given) = if says_until given then Some LastDay else None

abbrev pub digits_hint : (content : List ℕ) → Option Hint
digits_hint content = digits_meant (value_in content)

-- ---- a line whose comment has a last day

abbrev pub comment_hint : (content : List ℕ) → Option Hint
comment_hint content = if can_end (named_in content) then None else Some NoLastDay

-- ---- a line that begins with the name of an authority

abbrev pub behind_meant : (behind : List ℕ) → Option Hint
behind_meant behind =
    if means_until behind then Some LastDay else option_map Misspelt (misspelt_behind behind)

-- A last day or a misspelt word may be behind the name, if no right word is.
abbrev pub marked_hint : Option Mark → Option Hint
marked_hint None = None
marked_hint (Some mark) =
    if is_some (order_in (after_blanks mark.rest)) then None
    else behind_meant (after_blanks mark.rest)

abbrev pub behind_hint : (content : List ℕ) → Option Hint
behind_hint content = marked_hint (mark_in content)

abbrev pub mark_name : Option Mark → Option Hint
mark_name None = None
mark_name (Some mark) = Some (Name mark.name)

abbrev pub name_hint : (content : List ℕ) → Option Hint
name_hint content = mark_name (mark_in content)

-- ---- any line

abbrev pub line_hint : TextCause → ℕ → Option (List ℕ) → Option Hint
line_hint cause number None = None
line_hint causes.UnknownWord number (Some line) = word_hint (undated (bare_line line)) number
line_hint (causes.Spec (specs.Key (keys.Line lines.NoKey))) number (Some line) =
    key_hint (undated (bare_line line))
line_hint (causes.Spec specs.Number) number (Some line) = number_hint (undated (bare_line line))
line_hint causes.LeadingZero number (Some line) = digits_hint (undated (bare_line line))
line_hint causes.Hex number (Some line) = digits_hint (undated (bare_line line))
line_hint causes.DateInComment number (Some line) = comment_hint (undated (bare_line line))
line_hint causes.MarkedWord number (Some line) = behind_hint (undated (bare_line line))
line_hint causes.OtherKey number (Some line) = name_hint (undated (bare_line line))
line_hint causes.UnknownName number (Some line) = name_hint (undated (bare_line line))
line_hint cause number (Some line) = None

-- what the line of a text that has this fault may be meant as
unfoldable pub hint_at : List ℕ → ℕ → TextCause → Option Hint
hint_at text number cause = line_hint cause number (numbered_line text number)

-- The line has a value behind a word of texts, or behind the name of an authority.
abbrev pub has_word : (line : Option (List ℕ)) → Bool
has_word None = false
has_word (Some line) = is_some (value_in (undated (bare_line line)))
