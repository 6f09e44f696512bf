-- A text that is not UTF-8 is shown as ASCII.
use Rattle.std.proofs.Common.{◌≡◌, ℕ, zero, suc, ◌<◌, ◌/◌, ◌%◌, ◌==◌, ◌||◌, ◌&&◌, Bool, true, false, List, [], ◌∷◌, IsAscii, IsUtf8, codes, encode_utf8, flat_map, if◌then◌else◌, inl, inr, nat_lt, refl, sym, subst, arith, ltb-true}
use Rattle.std.specs.Char.{is_control}
use Rattle.std.proofs.lemmas.Bool.{and_parts, cases_eq, cases_lt}
use Rattle.std.proofs.lemmas.List.{get_or_past}
use Rattle.std.proofs.lemmas.Str.{IsAscii-append, IsUtf8-from_ascii, encode_ascii}
use Rattle.std.proofs.lemmas.Str.Ascii.{IsAscii-cons, IsAscii-nil}
use Rattle.ssh_cert.specs.Escape.{hex_digit, numbered}
use Rattle.line_pieces.specs.Visible.{is_bidi_or_line_end, visible_byte, visible_bytes, visible_char}

abbrev digits_below : ℕ → Bool
digits_below zero = true
digits_below (suc n) = nat_lt (hex_digit n) 128 && digits_below n

pick_ascii : (test : Bool) (a b : List ℕ) → IsAscii a → IsAscii b → IsAscii (if test then a else b)
pick_ascii true a b one other = one
pick_ascii false a b one other = other

-- past the 16 digits a digit is 0
digit_ascii : (n : ℕ) → hex_digit n < 128
digit_ascii n = elim (cases_lt n 16) [
  | inl within ↦ digit_at n within
  | inr past ↦ subst (λ (d : ℕ). d < 128) (sym (get_or_past (codes "0123456789abcdef") n 0 past)) (omega arith)
]
  where
    digit_below : (k : ℕ) → digits_below k ≡ true → (n : ℕ) → n < k → hex_digit n < 128
    digit_below zero all n within = absurd (omega arith)
    digit_below (suc k) all n within =
        let parts = and_parts _ _ all in
        elim (cases_eq n k) [ inl same ↦ rw same (ltb-true _ _ parts.0) | inr other ↦ digit_below k parts.1 n (omega arith) ]

    digit_at : (n : ℕ) → n < 16 → hex_digit n < 128
    digit_at n within = digit_below 16 refl n within

numbered_ascii : (code : ℕ) → IsAscii (numbered code)
numbered_ascii code =
    let last = IsAscii-cons (hex_digit (code % 16)) [] (digit_ascii (code % 16)) IsAscii-nil in
    let digits = IsAscii-cons (hex_digit (code / 16)) (hex_digit (code % 16) ∷ []) (digit_ascii (code / 16)) last in
    IsAscii-append (92 ∷ 120 ∷ []) (hex_digit (code / 16) ∷ hex_digit (code % 16) ∷ []) (IsAscii-cons 92 (120 ∷ []) (omega arith) (IsAscii-cons 120 [] (omega arith) IsAscii-nil)) digits

each_ascii : (bytes : List ℕ) → IsAscii (flat_map numbered bytes)
each_ascii [] = IsAscii-nil
each_ascii (byte ∷ bytes) = IsAscii-append (numbered byte) (flat_map numbered bytes) (numbered_ascii byte) (each_ascii bytes)

char_ascii : (quoted : Bool) (code : ℕ) → code < 128 → IsAscii (visible_char quoted code)
unfolding visible_char
char_ascii quoted code small =
    let alone : IsAscii (code ∷ []) = IsAscii-cons code [] small IsAscii-nil in
    let other = if quoted && (code == 34 || code == 92) then 92 ∷ code ∷ [] else encode_utf8 code in
    pick_ascii (is_control code) (numbered code) (if is_bidi_or_line_end code then flat_map numbered (encode_utf8 code) else other) (numbered_ascii code)
    (pick_ascii (is_bidi_or_line_end code) (flat_map numbered (encode_utf8 code)) other (each_ascii (encode_utf8 code))
    (pick_ascii (quoted && (code == 34 || code == 92)) (92 ∷ code ∷ []) (encode_utf8 code) (IsAscii-cons 92 (code ∷ []) (omega arith) alone) (rw (encode_ascii code small) alone)))

byte_ascii-if : (quoted : Bool) (byte : ℕ) (small : Bool) → nat_lt byte 128 ≡ small → IsAscii (if small then visible_char quoted byte else numbered byte)
byte_ascii-if quoted byte true is = char_ascii quoted byte (ltb-true byte 128 is)
byte_ascii-if quoted byte false is = numbered_ascii byte

byte_ascii : (quoted : Bool) (byte : ℕ) → IsAscii (visible_byte quoted byte)
unfolding visible_byte
byte_ascii quoted byte = byte_ascii-if quoted byte (nat_lt byte 128) refl

bytes_ascii : (quoted : Bool) (text : List ℕ) → IsAscii (visible_bytes quoted text)
bytes_ascii quoted [] = IsAscii-nil
bytes_ascii quoted (byte ∷ text) = IsAscii-append (visible_byte quoted byte) (visible_bytes quoted text) (byte_ascii quoted byte) (bytes_ascii quoted text)

pub bytes_utf8 : (quoted : Bool) (text : List ℕ) → IsUtf8 (visible_bytes quoted text)
bytes_utf8 quoted text = IsUtf8-from_ascii (visible_bytes quoted text) (bytes_ascii quoted text)
