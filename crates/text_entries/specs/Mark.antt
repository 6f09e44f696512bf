-- Lines that begin with `@` and the name of a certificate authority (krl(1), THE TEXT OF A LIST).
use Rattle.std.specs.Prelude.{ℕ, ◌==◌, List, [], ◌∷◌, length, drop, Option, Some, None}
use Rattle.std.specs.Prelude.{if◌then◌else◌}
use Rattle.std.specs.List.{before_first}
use Rattle.ssh_wire.specs.Ascii.{at_sign, colon}
use Rattle.key_text.specs.Blanks.{after_blanks}
use Rattle.krl_spec.specs.Blanks.{bare_line}
use Rattle.text_entries.specs.Misspelt.{is_word_end}
use Rattle.text_entries.specs.Word.{Order, order_in}

-- the name that a line begins with, and what is behind it
pub record Mark : Type 0 where
  pub name : List ℕ
  pub rest : List ℕ

abbrev pub mark : List ℕ → List ℕ → Mark
mark name rest = record { name = name; rest = rest }

-- The name ends where a word ends.
abbrev pub mark_at : (marked : List ℕ) → Mark
mark_at marked =
    mark (before_first is_word_end marked) (drop (length (before_first is_word_end marked)) marked)

-- the mark that a line's content begins with
unfoldable pub mark_in : (content : List ℕ) → Option Mark
mark_in [] = None
mark_in (byte ∷ marked) = if byte == at_sign then Some (mark_at marked) else None

-- what is behind a colon and blanks, if a colon comes first
abbrev pub given_behind : (rest : List ℕ) → Option (List ℕ)
given_behind [] = None
given_behind (byte ∷ given) = if byte == colon then Some (after_blanks given) else None

-- ---- the name that a line gives to an authority

abbrev pub name_if_given : (name : List ℕ) → (given : Option (List ℕ)) → Option (List ℕ)
name_if_given name None = None
name_if_given name (Some given) = Some name

abbrev pub name_of_mark : Option Mark → Option (List ℕ)
name_of_mark None = None
name_of_mark (Some mark) = name_if_given mark.name (given_behind mark.rest)

abbrev pub name_given : (line : List ℕ) → Option (List ℕ)
name_given line = name_of_mark (mark_in (bare_line line))

-- ---- the value of a line's content

abbrev pub value_of : Option Order → Option (List ℕ)
value_of None = None
value_of (Some order) = Some order.given

abbrev pub value_behind : (given : Option (List ℕ)) → Option Order → Option (List ℕ)
value_behind None order = value_of order
value_behind (Some given) order = Some given

abbrev pub value_marked : Option Mark → Option (List ℕ)
value_marked None = None
value_marked (Some mark) =
    value_behind (given_behind mark.rest) (order_in (after_blanks mark.rest))

abbrev pub value_unless : Option Order → Option Mark → Option (List ℕ)
value_unless None mark = value_marked mark
value_unless (Some order) mark = Some order.given

-- what is behind the word of a line's content, or behind its mark
abbrev pub value_in : (content : List ℕ) → Option (List ℕ)
value_in content = value_unless (order_in content) (mark_in content)
