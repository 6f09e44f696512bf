-- Where the name of a key's type may begin in a line.
use Rattle.std.specs.Prelude.{◌≡◌, ℕ, Bool, false, true, not, ◌-◌, ◌==◌, ◌&&◌, ◌||◌, nat_lt}
use Rattle.std.specs.Prelude.{List, [], ◌∷◌, ◌++◌, slice_index, Option, Some, None, if◌then◌else◌}
use Rattle.std.specs.Borrow.{Bor}
use Rattle.std.specs.Char.{is_ascii_alphanumeric}
use Rattle.ssh_wire.specs.Ascii.{at_sign, backslash, dot, hyphen}
use Rattle.key_text.specs.Blanks.{first_word}
use Rattle.key_text.specs.LineReading.{after_word}
use Rattle.key_text.specs.TypeName.{is_type_name}

-- a byte of a longer name: a letter, a digit, `-`, `.` or `@`
abbrev pub is_name_byte : ℕ → Bool
is_name_byte byte =
    is_ascii_alphanumeric byte || ((byte == hyphen) || ((byte == dot) || (byte == at_sign)))

-- the letter of `\n`, `\r` or `\t`
abbrev pub is_escape_letter : ℕ → Bool
is_escape_letter byte = (byte == 110) || ((byte == 114) || (byte == 116))

-- The front of a line, if the name of a type may follow it: it is empty, its last byte belongs to
-- no name, or it ends with an escape of JSON (RFC 8259 section 7) for a line end or a tab.
pub data MayPrecede : List ℕ → Type 0 where
  nothing : MayPrecede []
  other_byte : (before : List ℕ) (byte : ℕ) → is_name_byte byte ≡ false
      → MayPrecede (before ++ byte ∷ [])
  escape : (before : List ℕ) (letter : ℕ) → is_escape_letter letter ≡ true
      → MayPrecede (before ++ backslash ∷ letter ∷ [])

-- whether the last byte of an escape is before a position
abbrev pub after_escape : List ℕ → ℕ → Bool
after_escape line at =
    nat_lt 1 at && ((slice_index line (at - 2) == backslash)
    && is_escape_letter (slice_index line (at - 1)))

-- whether the name of a type may begin at a position
unfoldable pub may_begin : List ℕ → ℕ → Bool
may_begin line at =
    (at == 0) || (not (is_name_byte (slice_index line (at - 1))) || after_escape line at)

abbrev pub parts : Bor (List ℕ) × Bor (List ℕ) → List ℕ × List ℕ
parts p = (p.0.now, p.1.now)

abbrev pub before_rest : List ℕ → List ℕ → Option (List ℕ × List ℕ)
before_rest name [] = None
before_rest name (byte ∷ rest) =
    if is_type_name name then Some (name, byte ∷ rest) else None

-- the name of a type at the start of a text, and the text after it, which begins with a blank
unfoldable pub name_at : List ℕ → Option (List ℕ × List ℕ)
name_at text = before_rest (first_word text) (after_word text)
