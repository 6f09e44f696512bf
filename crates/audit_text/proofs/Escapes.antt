-- No escape sequence is in a plain line.
use Rattle.std.proofs.Common.{◌≡◌, ℕ, ◌+◌, ◌*◌, ◌<◌, ◌^◌, ◌/◌, ◌%◌, ◌==◌, ◌||◌, ◌&&◌, Bool, true, false, List, [], ◌∷◌, ◌++◌, append-nil, chars, codes, decimal, drop, flat_map, get_or, if◌then◌else◌, length, map, nat_lt, slice_index, refl, sym, ap, ap₂, subst, ◌∙◌, inl, inr, arith, true≢false, encode_utf8}
use Rattle.std.specs.Char.{is_control}
use Rattle.std.specs.List.{list_any}
use Rattle.std.specs.Str.{is_utf8}
use Rattle.std.proofs.lemmas.Bool.{cases_Bool, cases_lt, ne_eqb}
use Rattle.std.proofs.lemmas.Fmt.{decimal_by_steps}
use Rattle.std.proofs.lemmas.List.{get_or_past}
use Rattle.std.proofs.lemmas.List.Elements.{All-from_get_or}
use Rattle.std.proofs.lemmas.List.Folds.{list_any-append, list_any_at, list_any_none}
use Rattle.std.proofs.lemmas.Str.{inside_one}
use Rattle.base64.specs.Engines.{standard_no_pad}
use Rattle.base64.specs.GeneralPurpose.{engine_symbols}
use Rattle.base64.specs.Rfc4648.{encode_group, encode_symbols}
use Rattle.sha2.specs.Sha256.{sha256}
use Rattle.ssh_cert.specs.Escape.{hex_digit, numbered}
use Rattle.key_text.specs.Fingerprints.{fingerprint_text, unpadded}
use Rattle.key_text.specs.declared.hash.Hash.TheVariants.{Sha256}
use Rattle.audit_text.specs.Colour.{HasNoEscape}
use Rattle.line_pieces.specs.Visible.{is_bidi_or_line_end, visible, visible_byte, visible_bytes, visible_char}

abbrev is_escape : ℕ → Bool
is_escape byte = byte == 27

or_none : (a b : Bool) → (a || b) ≡ false → b ≡ false
or_none true b none = absurd (true≢false none)
or_none false b none = none

pub free_append : (a b : List ℕ) → HasNoEscape a → HasNoEscape b → HasNoEscape (a ++ b)
free_append a b first second = list_any-append is_escape a b ∙ ap₂ (λ (x y : Bool). x || y) first second

pub free_cons : (x : ℕ) (xs : List ℕ) → is_escape x ≡ false → HasNoEscape xs → HasNoEscape (x ∷ xs)
free_cons x xs first rest = ap₂ (λ (a b : Bool). a || b) first rest

pub free_drop : (xs : List ℕ) → HasNoEscape xs → HasNoEscape (drop 1 xs)
free_drop [] free = refl
free_drop (x ∷ xs) free = or_none (is_escape x) (list_any is_escape xs) free

free_pick : (test : Bool) (a b : List ℕ) → (test ≡ true → HasNoEscape a) → (test ≡ false → HasNoEscape b) → HasNoEscape (if test then a else b)
free_pick true a b one other = one refl
free_pick false a b one other = other refl

free_flat : (f : ℕ → List ℕ) → ((x : ℕ) → HasNoEscape (f x)) → (xs : List ℕ) → HasNoEscape (flat_map f xs)
free_flat f each [] = refl
free_flat f each (x ∷ xs) = free_append (f x) (flat_map f xs) (each x) (free_flat f each xs)

-- ---- bytes of a table

read_free : (xs : List ℕ) (i : ℕ) → HasNoEscape xs → is_escape (slice_index xs i) ≡ false
read_free xs i free = elim (cases_lt i (length xs)) [
  | inl within ↦ elim (cases_Bool (is_escape (get_or xs i 0))) [
    | inl is ↦ absurd (true≢false (sym (list_any_at is_escape xs i 0 within is) ∙ free))
    | inr other ↦ other
  ]
  | inr past ↦ ap is_escape (get_or_past xs i 0 past)
]

digit_free : (n : ℕ) → is_escape (hex_digit n) ≡ false
digit_free n = read_free (codes "0123456789abcdef") n refl

numbered_free : (code : ℕ) → HasNoEscape (numbered code)
numbered_free code =
    free_append (92 ∷ 120 ∷ []) (hex_digit (code / 16) ∷ hex_digit (code % 16) ∷ []) refl
    (free_cons (hex_digit (code / 16)) (hex_digit (code % 16) ∷ []) (digit_free (code / 16)) (free_cons (hex_digit (code % 16)) [] (digit_free (code % 16)) refl))

reads_free : (table : List ℕ) → HasNoEscape table → (places : List ℕ) → HasNoEscape (map (slice_index table) places)
reads_free table free [] = refl
reads_free table free (i ∷ places) = free_cons (slice_index table i) (map (slice_index table) places) (read_free table i free) (reads_free table free places)

symbols_free : (table : List ℕ) → HasNoEscape table → (bytes : List ℕ) → HasNoEscape (encode_symbols table bytes)
unfolding encode_symbols
symbols_free table free [] = refl
symbols_free table free (a ∷ []) = reads_free table free ((a / 4) ∷ (a % 4 * 16) ∷ [])
symbols_free table free (a ∷ b ∷ []) = reads_free table free ((a / 4) ∷ (a % 4 * 16 + b / 16) ∷ (b % 16 * 4) ∷ [])
symbols_free table free (a ∷ b ∷ c ∷ rest) =
    free_append (encode_group table a b c) (encode_symbols table rest) (reads_free table free ((a / 4) ∷ (a % 4 * 16 + b / 16) ∷ (b % 16 * 4 + c / 64) ∷ (c % 64) ∷ []))
    (symbols_free table free rest)

-- ---- texts

encode_free : (code : ℕ) → is_control code ≡ false → HasNoEscape (encode_utf8 code)
encode_free code plain =
    list_any_none is_escape (encode_utf8 code) (All-from_get_or (λ x. is_escape x ≡ false) (encode_utf8 code) 0 (λ i within.
    ne_eqb (get_or (encode_utf8 code) i 0) 27 (λ is.
    let same : code ≡ 27 = inside_one code [] (encode_utf8 code) i (sym (append-nil (encode_utf8 code))) within (omega (arith, is)) ∙ is in
    true≢false (subst (λ c. is_control c ≡ false) same plain))))

pair_free : (code : ℕ) → (code == 34 || code == 92) ≡ true → HasNoEscape (92 ∷ code ∷ [])
pair_free code is =
    free_cons 92 (code ∷ []) refl (free_cons code [] (ne_eqb code 27 (λ e. true≢false (sym is ∙ ap (λ c. c == 34 || c == 92) e))) refl)

and_second : (a b : Bool) → (a && b) ≡ true → b ≡ true
and_second true b is = is
and_second false b is = absurd (true≢false (sym is))

char_free : (quoted : Bool) (code : ℕ) → HasNoEscape (visible_char quoted code)
unfolding visible_char
char_free quoted code =
    let other = if quoted && (code == 34 || code == 92) then 92 ∷ code ∷ [] else encode_utf8 code in
    free_pick (is_control code) (numbered code) (if is_bidi_or_line_end code then flat_map numbered (encode_utf8 code) else other) (λ _. numbered_free code)
    (λ plain. free_pick (is_bidi_or_line_end code) (flat_map numbered (encode_utf8 code)) other (λ _. free_flat numbered numbered_free (encode_utf8 code))
    (λ _. free_pick (quoted && (code == 34 || code == 92)) (92 ∷ code ∷ []) (encode_utf8 code) (λ is. pair_free code (and_second quoted (code == 34 || code == 92) is)) (λ _. encode_free code plain)))

byte_free : (quoted : Bool) (byte : ℕ) → HasNoEscape (visible_byte quoted byte)
unfolding visible_byte
byte_free quoted byte = free_pick (nat_lt byte 128) (visible_char quoted byte) (numbered byte) (λ _. char_free quoted byte) (λ _. numbered_free byte)

pub visible_free : (quoted : Bool) (text : List ℕ) → HasNoEscape (visible quoted text)
unfolding visible
visible_free quoted text =
    free_pick (is_utf8 text) (flat_map (visible_char quoted) (chars text)) (visible_bytes quoted text) (λ _. free_flat (visible_char quoted) (char_free quoted) (chars text))
    (λ _. free_flat (visible_byte quoted) (byte_free quoted) text)

pub decimal_free : (n : ℕ) → n < 2 ^ 64 → HasNoEscape (decimal n)
decimal_free n small =
    decimal_by_steps (λ n ds. HasNoEscape ds) (λ n below. free_cons (48 + n) [] (ne_eqb (48 + n) 27 (λ e. omega arith)) refl)
    (λ n ds above rest. free_append ds ((48 + n % 10) ∷ []) rest (free_cons (48 + n % 10) [] (ne_eqb (48 + n % 10) 27 (λ e. omega arith)) refl)) n small

unpadded_free : (bytes : List ℕ) → HasNoEscape (unpadded bytes)
unfolding unpadded
unpadded_free bytes = free_append (encode_symbols (engine_symbols standard_no_pad) bytes) [] (symbols_free (engine_symbols standard_no_pad) refl bytes) refl

pub printed_free : (bytes : List ℕ) → HasNoEscape (codes "SHA256:" ++ unpadded bytes)
printed_free bytes = free_append (codes "SHA256:") (unpadded bytes) refl (unpadded_free bytes)

pub fingerprint_free : (bytes : List ℕ) → HasNoEscape (fingerprint_text Sha256 bytes)
unfolding fingerprint_text
fingerprint_free bytes = printed_free (sha256 bytes)
