-- Texts as they are shown: a control character is shown by its number, so a terminal does not obey
-- it. Unicode's bidirectional controls and line separators are shown byte by byte.
use Rattle.std.specs.Prelude.{ℕ, ◌==◌, ◌||◌, ◌&&◌, Bool, List, [], ◌∷◌, nat_le, nat_lt}
use Rattle.std.specs.Prelude.{if◌then◌else◌}
use Rattle.std.specs.Char.{encode_utf8, is_control}
use Rattle.std.specs.List.{flat_map}
use Rattle.std.specs.Str.{chars, is_utf8}
use Rattle.ssh_wire.specs.Ascii.{backslash, quote}
use Rattle.ssh_cert.specs.Escape.{numbered}

-- U+061C, U+200E, U+200F, U+202A to U+202E, and U+2066 to U+2069, which change the order in which a
-- text is shown; U+2028 and U+2029, which end a line
abbrev pub is_bidi_or_line_end : ℕ → Bool
is_bidi_or_line_end code =
    (code == 0x61c) || ((code == 0x200e) || ((code == 0x200f)
    || ((nat_le 0x2028 code && nat_lt code 0x202f) || (nat_le 0x2066 code && nat_lt code 0x206a))))

-- between quotes, a quote and a backslash have a backslash before them
unfoldable pub visible_char : Bool → ℕ → List ℕ
visible_char quoted code =
    if is_control code then numbered code
    else if is_bidi_or_line_end code then flat_map numbered (encode_utf8 code)
    else if quoted && (code == quote || code == backslash) then backslash ∷ code ∷ []
    else encode_utf8 code

-- a byte of a text that is not UTF-8
unfoldable pub visible_byte : Bool → ℕ → List ℕ
visible_byte quoted byte = if nat_lt byte 128 then visible_char quoted byte else numbered byte

abbrev pub visible_bytes : Bool → List ℕ → List ℕ
visible_bytes quoted text = flat_map (visible_byte quoted) text

unfoldable pub visible : Bool → List ℕ → List ℕ
visible quoted text =
    if is_utf8 text then flat_map (visible_char quoted) (chars text) else visible_bytes quoted text
