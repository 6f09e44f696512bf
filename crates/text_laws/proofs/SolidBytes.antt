-- Bytes that a line keeps as they are: numbers, hexadecimal digits, base64 and names have no others.
use Rattle.std.proofs.lemmas.Grind.{common_steps}
use Rattle.std.proofs.Common.{◌≡◌, ℕ, ◌+◌, ◌*◌, ◌/◌, ◌%◌, ◌<◌, ◌==◌, ◌&&◌, Bool, true, false, not, List, [], ◌∷◌, length, map, replicate, slice_index, decimal, refl, ap, ◌∙◌, arith, inl, inr, ◌^◌}
use Rattle.std.proofs.lemmas.Bool.{and_parts, cases_Bool, cases_lt, eqb-true, not-true, or_cases}
use Rattle.std.proofs.lemmas.Fmt.{decimal_is_IsNumeral}
use Rattle.std.proofs.lemmas.List.{get_or_past}
use Rattle.std.proofs.lemmas.List.Elements.{All-append, All-cons, All-nil, All-replicate}
use Rattle.std.proofs.lemmas.List.Sums.{AllPass-from_list_all}
use Rattle.std.specs.Char.{digit_value}
use Rattle.std.specs.List.{AllPass, list_all}
use Rattle.std.specs.Str.Parse.{AllDigits}
use Rattle.base64.specs.Engines.{standard}
use Rattle.base64.specs.GeneralPurpose.{encode_of, engine_symbols}
use Rattle.base64.specs.Rfc4648.{encode_group, encode_symbols, padding_len}
use Rattle.hex.specs.Hex.{encode_lower, encode_with, lower_digits}
use Rattle.key_text.specs.Blanks.{is_ending}
use Rattle.key_text.specs.Fingerprints.{unpadded}
use Rattle.key_text.specs.Lines.{is_newline}
use Rattle.krl_spec.specs.Blanks.{is_hash}

-- no line feed, and no `#`
abbrev pub is_kept : ℕ → Bool
is_kept byte = not (byte == 10) && not (byte == 35)

-- neither a blank nor a carriage return
abbrev pub is_solid : ℕ → Bool
is_solid byte = is_kept byte && not (is_ending byte)

abbrev pub IsKept : ℕ → Type 0
IsKept byte = is_kept byte ≡ true

abbrev pub IsSolid : ℕ → Type 0
IsSolid byte = is_solid byte ≡ true

abbrev pub HasNoFeed : ℕ → Type 0
HasNoFeed byte = is_newline byte ≡ false

-- ---- what such bytes are not

pub solid_kept : (byte : ℕ) → IsSolid byte → IsKept byte
solid_kept byte is = (and_parts (is_kept byte) (not (is_ending byte)) is).0

pub solid_no_ending : (byte : ℕ) → IsSolid byte → not (is_ending byte) ≡ true
solid_no_ending byte is = (and_parts (is_kept byte) (not (is_ending byte)) is).1

pub kept_no_hash : (byte : ℕ) → IsKept byte → not (is_hash byte) ≡ true
kept_no_hash byte is = (and_parts (not (byte == 10)) (not (byte == 35)) is).1

pub kept_no_feed : (byte : ℕ) → IsKept byte → HasNoFeed byte
kept_no_feed byte is = not-true (byte == 10) (and_parts (not (byte == 10)) (not (byte == 35)) is).0

-- ---- texts by a table of symbols

module _ (passes : ℕ → Bool) (zero_passes : passes 0 ≡ true) (table : List ℕ) (each : list_all passes table ≡ true) where
  abbrev Passes : ℕ → Type 0
  Passes byte = passes byte ≡ true

  symbol : (i : ℕ) → Passes (slice_index table i)
  symbol i = elim (cases_lt i (length table)) [
    | inl lt ↦ AllPass-from_list_all passes table each i 0 lt
    | inr le ↦ ap passes (get_or_past table i 0 le) ∙ zero_passes
  ]

  symbols_of : (places : List ℕ) → AllPass passes (map (slice_index table) places)
  symbols_of [] = All-nil Passes
  symbols_of (i ∷ places) = All-cons Passes (slice_index table i) (map (slice_index table) places) (symbol i) (symbols_of places)

  symbols : (bytes : List ℕ) → AllPass passes (encode_symbols table bytes)
  unfolding encode_symbols
  symbols [] = All-nil Passes
  symbols (a ∷ []) = symbols_of (a / 4 ∷ a % 4 * 16 ∷ [])
  symbols (a ∷ b ∷ []) = symbols_of (a / 4 ∷ (a % 4 * 16 + b / 16) ∷ b % 16 * 4 ∷ [])
  symbols (a ∷ b ∷ c ∷ rest) =
      All-append Passes (encode_group table a b c) (encode_symbols table rest)
      (symbols_of (a / 4 ∷ (a % 4 * 16 + b / 16) ∷ (b % 16 * 4 + c / 64) ∷ c % 64 ∷ [])) (symbols rest)

  hex_digits : (bytes : List ℕ) → AllPass passes (encode_with table bytes)
  unfolding encode_with
  hex_digits [] = All-nil Passes
  hex_digits (byte ∷ rest) =
      All-cons Passes (slice_index table (byte / 16)) (slice_index table (byte % 16) ∷ encode_with table rest) (symbol (byte / 16))
      (All-cons Passes (slice_index table (byte % 16)) (encode_with table rest) (symbol (byte % 16)) (hex_digits rest))

abbrev table : List ℕ
table = engine_symbols standard

pub base64_solid : (bytes : List ℕ) → AllPass is_solid (encode_of standard bytes)
base64_solid bytes =
    All-append IsSolid (encode_symbols table bytes) (replicate (padding_len (length bytes)) 61) (symbols is_solid refl table refl bytes)
    (All-replicate IsSolid (padding_len (length bytes)) 61 refl)

pub unpadded_solid : (bytes : List ℕ) → AllPass is_solid (unpadded bytes)
unfolding unpadded
unpadded_solid bytes = All-append IsSolid (encode_symbols table bytes) [] (symbols is_solid refl table refl bytes) (All-nil IsSolid)

abbrev pub is_no_hyphen : ℕ → Bool
is_no_hyphen byte = not (byte == 45)

abbrev pub IsNoHyphen : ℕ → Type 0
IsNoHyphen byte = is_no_hyphen byte ≡ true

pub unpadded_no_hyphen : (bytes : List ℕ) → AllPass is_no_hyphen (unpadded bytes)
unfolding unpadded
unpadded_no_hyphen bytes = All-append IsNoHyphen (encode_symbols table bytes) [] (symbols is_no_hyphen refl table refl bytes) (All-nil IsNoHyphen)

pub hex_solid : (bytes : List ℕ) → AllPass is_solid (encode_lower bytes)
hex_solid bytes = hex_digits is_solid refl lower_digits refl bytes

pub hex_symbol : (i : ℕ) → IsSolid (slice_index lower_digits i)
hex_symbol i = symbol is_solid refl lower_digits refl i

-- ---- numbers

digit_solid : (c : ℕ) → digit_value c < 10 → IsSolid c
digit_solid c digit = grind (arith, common_steps, cases_Bool, eqb-true, or_cases)

digits_solid : (digits : List ℕ) → AllDigits 10 digits → AllPass is_solid digits
digits_solid [] all = All-nil IsSolid
digits_solid (c ∷ digits) all = All-cons IsSolid c digits (digit_solid c all.0) (digits_solid digits all.1)

pub decimal_solid : (n : ℕ) → n < 2 ^ 64 → AllPass is_solid (decimal n)
decimal_solid n small = digits_solid (decimal n) (decimal_is_IsNumeral n small).0.1

digit_no_hyphen : (c : ℕ) → digit_value c < 10 → IsNoHyphen c
digit_no_hyphen c digit = grind (arith, common_steps, cases_Bool, eqb-true)

digits_no_hyphen : (digits : List ℕ) → AllDigits 10 digits → AllPass is_no_hyphen digits
digits_no_hyphen [] all = All-nil IsNoHyphen
digits_no_hyphen (c ∷ digits) all =
    All-cons IsNoHyphen c digits (digit_no_hyphen c all.0) (digits_no_hyphen digits all.1)

pub decimal_no_hyphen : (n : ℕ) → n < 2 ^ 64 → AllPass is_no_hyphen (decimal n)
decimal_no_hyphen n small = digits_no_hyphen (decimal n) (decimal_is_IsNumeral n small).0.1
