-- The characters that a terminal may obey although JSON allows them in a string, as JSON's escapes
-- (RFC 8259 section 7): DEL, U+0080 to U+009F, Unicode's bidirectional controls (U+061C, U+200E,
-- U+200F, U+202A to U+202E, U+2066 to U+2069), and its line and paragraph separators (U+2028,
-- U+2029).
use Rattle.std.specs.Prelude.{◌≡◌, ℕ, ◌+◌, ◌/◌, ◌%◌, List, [], ◌∷◌, ◌++◌, Bool, false, ◌&&◌, ◌||◌}
use Rattle.std.specs.Prelude.{◌==◌, get_or, if◌then◌else◌, nat_le, nat_lt}
use Rattle.std.specs.Char.{digit_char}
use Rattle.json.specs.Ascii.{backslash, lower_u}
use Rattle.json_lines.specs.declared.escapes.Held.{Held}
use Rattle.json_lines.specs.declared.escapes.Held.TheVariants as held

-- DEL
abbrev pub delete : ℕ
delete = 127

-- ---- the bytes of these characters in UTF-8

-- After the byte 0xc2 this byte ends a character from U+0080 to U+009F.
abbrev pub ends_control : ℕ → Bool
ends_control byte = nat_le 128 byte && nat_lt byte 160

-- After the byte 0xd8 this byte ends U+061C.
abbrev pub ends_arabic : ℕ → Bool
ends_arabic byte = byte == 156

-- After the bytes 0xe2 and 0x80 this byte ends U+200E, U+200F, or U+2028 to U+202E.
abbrev pub ends_mark : ℕ → Bool
ends_mark byte = (byte == 142) || ((byte == 143) || (nat_le 168 byte && nat_lt byte 175))

-- After the bytes 0xe2 and 0x81 this byte ends a character from U+2066 to U+2069.
abbrev pub ends_isolate : ℕ → Bool
ends_isolate byte = nat_le 166 byte && nat_lt byte 170

-- The byte may be the first of such a character that is longer than one byte.
abbrev pub is_first : ℕ → Bool
is_first byte = (byte == 194) || ((byte == 216) || (byte == 226))

-- The byte may begin one of these characters.
abbrev pub may_be_control : ℕ → Bool
may_be_control byte = (byte == delete) || is_first byte

-- ---- the escapes

-- the escape of a character below U+10000
abbrev pub spelled : ℕ → List ℕ
spelled code =
    backslash ∷ lower_u ∷ digit_char (code / 4096) ∷ digit_char (code / 256 % 16)
    ∷ digit_char (code / 16 % 16) ∷ digit_char (code % 16) ∷ []

-- the bytes that are not yet written
abbrev pub bytes_of : Held → List ℕ
bytes_of held.Nothing = []
bytes_of held.Latin = 194 ∷ []
bytes_of held.Arabic = 216 ∷ []
bytes_of held.General = 226 ∷ []
bytes_of held.Marks = 226 ∷ 128 ∷ []
bytes_of held.Isolates = 226 ∷ 129 ∷ []

-- whether a byte behind these ends a character that is escaped
abbrev pub ends : Held → ℕ → Bool
ends held.Nothing byte = false
ends held.Latin byte = ends_control byte
ends held.Arabic byte = ends_arabic byte
ends held.General byte = false
ends held.Marks byte = ends_mark byte
ends held.Isolates byte = ends_isolate byte

-- the number of that character
abbrev pub code_of : Held → ℕ → ℕ
code_of held.Nothing byte = byte
code_of held.Latin byte = byte
code_of held.Arabic byte = 1564
code_of held.General byte = byte
code_of held.Marks byte = 8064 + byte
code_of held.Isolates byte = 8128 + byte

-- whether a byte behind these is the second of such a character that is three bytes long
abbrev pub joins : Held → ℕ → Bool
joins held.General byte = (byte == 128) || (byte == 129)
joins _ byte = false

abbrev pub joined : ℕ → Held
joined byte = if byte == 128 then held.Marks else held.Isolates

-- what is held after a byte alone
abbrev pub first_of : ℕ → Held
first_of byte =
    if byte == 194 then held.Latin
    else if byte == 216 then held.Arabic
    else if byte == 226 then held.General else held.Nothing

-- what is held after a byte behind these
abbrev pub next_of : Held → ℕ → Held
next_of before byte =
    if ends before byte then held.Nothing
    else if joins before byte then joined byte else first_of byte

-- the text of a byte alone; a first byte is held until the next byte is known
abbrev pub alone : ℕ → List ℕ
alone byte =
    if byte == delete then spelled delete else if is_first byte then [] else byte ∷ []

-- the text of a byte behind these
abbrev pub written : Held → ℕ → List ℕ
written before byte =
    if ends before byte then spelled (code_of before byte)
    else if joins before byte then [] else bytes_of before ++ alone byte

unfoldable pub escaped_from : Held → List ℕ → List ℕ
escaped_from before [] = bytes_of before
escaped_from before (byte ∷ text) =
    written before byte ++ escaped_from (next_of before byte) text

-- the text with escapes for these characters
abbrev pub escaped_controls : List ℕ → List ℕ
escaped_controls text = escaped_from held.Nothing text

-- ---- a text without them

-- Behind the byte 0xe2 these bytes end one of these characters.
abbrev pub ends_general : (second third : ℕ) → Bool
ends_general second third =
    ((second == 128) && ends_mark third) || ((second == 129) && ends_isolate third)

-- The byte before this text begins one of these characters.
abbrev pub begins_control : ℕ → List ℕ → Bool
begins_control byte text =
    (byte == delete)
    || (((byte == 194) && ends_control (get_or text 0 0))
    || (((byte == 216) && ends_arabic (get_or text 0 0))
    || ((byte == 226) && ends_general (get_or text 0 0) (get_or text 1 0))))

-- The text has none of these characters.
abbrev pub HasNoControls : List ℕ → Type 0
HasNoControls [] = Unit {0}
HasNoControls (byte ∷ text) = (begins_control byte text ≡ false) × HasNoControls text
