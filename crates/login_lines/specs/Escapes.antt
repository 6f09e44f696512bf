-- How sshd writes bytes in its log: the forms of vis(3) that it asks for.
use Rattle.std.specs.Prelude.{◌≡◌, ◌≢◌, ℕ, Bool, ◌+◌, ◌-◌, ◌*◌, ◌/◌, ◌%◌, ◌==◌, ◌&&◌, ◌||◌, not}
use Rattle.std.specs.Prelude.{nat_le, nat_lt, List, [], ◌∷◌, Option, Some, None, option_map}
use Rattle.std.specs.Prelude.{if◌then◌else◌}
use Rattle.std.specs.List.{find, flat_map}

-- letters, and a second backslash, beside the bytes that a backslash and each of them represent
abbrev pub letters : List (ℕ × ℕ)
letters =
    (92, 92) ∷ (110, 10) ∷ (116, 9) ∷ (114, 13) ∷ (97, 7) ∷ (98, 8) ∷ (118, 11) ∷ (102, 12) ∷ []

-- the byte that a backslash and a letter represent
unfoldable pub letter_of : ℕ → Option ℕ
letter_of letter = option_map (λ row. row.1) (find (λ row. letter == row.0) letters)

-- the letter for a byte
unfoldable pub letter_for : ℕ → Option ℕ
letter_for byte = option_map (λ row. row.0) (find (λ row. byte == row.1) letters)

abbrev pub is_octal : ℕ → Bool
is_octal digit = nat_le 48 digit && nat_le digit 55

-- the byte that three octal digits spell
unfoldable pub octal_of : ℕ → ℕ → ℕ → Option ℕ
octal_of a b c =
    if nat_le 48 a && nat_le a 51 && is_octal b && is_octal c
    then Some (64 * (a - 48) + 8 * (b - 48) + (c - 48)) else None

-- A text spells bytes: a backslash and a letter, a backslash and three octal digits, and any other
-- byte for itself.
pub data Escapes : List ℕ → List ℕ → Type 0 where
  escapes_nothing : Escapes [] []
  escapes_itself : (byte : ℕ) (text bytes : List ℕ) → byte ≢ 92 → Escapes text bytes
      → Escapes (byte ∷ text) (byte ∷ bytes)
  escapes_letter : (letter byte : ℕ) (text bytes : List ℕ) → letter_of letter ≡ Some byte
      → Escapes text bytes → Escapes (92 ∷ letter ∷ text) (byte ∷ bytes)
  escapes_octal : (a b c byte : ℕ) (text bytes : List ℕ) → letter_of a ≡ None
      → octal_of a b c ≡ Some byte → Escapes text bytes
      → Escapes (92 ∷ a ∷ b ∷ c ∷ text) (byte ∷ bytes)

abbrev pub is_printable : ℕ → Bool
is_printable byte = nat_le 32 byte && nat_lt byte 127

abbrev pub octal_text : ℕ → List ℕ
octal_text byte = 92 ∷ (48 + byte / 64) ∷ (48 + byte / 8 % 8) ∷ (48 + byte % 8) ∷ []

-- to a terminal or a file, these are written unchanged
abbrev pub is_safe : ℕ → Bool
is_safe byte = is_printable byte || (nat_le 7 byte && nat_le byte 10) || (byte == 13)

unfoldable pub terminal_byte : ℕ → List ℕ
terminal_byte byte =
    if byte == 92 then 92 ∷ 92 ∷ [] else if is_safe byte then byte ∷ [] else octal_text byte

abbrev pub terminal_text : List ℕ → List ℕ
terminal_text bytes = flat_map terminal_byte bytes

abbrev pub escape : ℕ → Option ℕ → List ℕ
escape byte None = octal_text byte
escape byte (Some letter) = 92 ∷ letter ∷ []

-- to syslog, a control byte with a letter is written by it
unfoldable pub syslog_byte : ℕ → List ℕ
syslog_byte byte =
    if is_printable byte && not (byte == 92) then byte ∷ [] else escape byte (letter_for byte)

abbrev pub syslog_text : List ℕ → List ℕ
syslog_text bytes = flat_map syslog_byte bytes

unfoldable pub octal_at : List ℕ → Option (ℕ × List ℕ)
octal_at [] = None
octal_at (a ∷ []) = None
octal_at (a ∷ b ∷ []) = None
octal_at (a ∷ b ∷ c ∷ rest) = option_map (λ byte. (byte, rest)) (octal_of a b c)

abbrev pub escaped_at : ℕ → List ℕ → Option ℕ → Option (ℕ × List ℕ)
escaped_at next rest None = octal_at (next ∷ rest)
escaped_at next rest (Some byte) = Some (byte, rest)

-- the first byte that a text spells, and the text after it
unfoldable pub byte_at : List ℕ → Option (ℕ × List ℕ)
byte_at [] = None
byte_at (byte ∷ []) = if byte == 92 then None else Some (byte, [])
byte_at (byte ∷ next ∷ rest) =
    if byte == 92 then escaped_at next rest (letter_of next) else Some (byte, next ∷ rest)
