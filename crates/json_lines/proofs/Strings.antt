-- Strings with escapes for control characters are read as the strings without.
use Rattle.std.proofs.Common.{◌≡◌, ℕ, ◌+◌, ◌*◌, ◌<◌, ◌≤◌, ◌/◌, ◌%◌, ◌==◌, ◌&&◌, ◌||◌, Bool, true, false, cond, List, [], ◌∷◌, ◌++◌, nat_le, nat_lt, Option, Some, None, option_and_then, inl, inr, ◌⊎◌, refl, sym, ap, ap₂, ◌∙◌, subst, arith, append_assoc, append-nil}
use Rattle.std.specs.Char.{digit_char, digit_value}
use Rattle.std.proofs.Math.Utf8.{encode}
use Rattle.std.proofs.lemmas.Bool.{and_parts, cases_eq, cases_lt, eqb-true, le-leb, le-ltb, lt-leb, lt-ltb, leb-true, ltb-false, ltb-true, ne_eqb, cases_Bool, or_cases, or_parts}
use Rattle.std.proofs.lemmas.Str.{digit_value-digit_char}
use Rattle.json.specs.Text.{after_high, code_unit, content, is_high_surrogate, is_low_surrogate, plain, prepend, short_escape}
use Rattle.json.specs.Word.{is_operator, is_space}
use Rattle.json.specs.Lex.{lex, lex_byte, between, in_string, operator, space, other}
use Rattle.json.specs.Print.{escape, escape_byte}
use Rattle.json.proofs.Printed.Strings.{escape_byte_plain}
use Rattle.json_lines.specs.Controls.{alone, bytes_of, code_of, ends, ends_mark, escaped_from, first_of, is_first, joins, may_be_control, next_of, spelled}
use Rattle.json_lines.specs.declared.escapes.Held.{Held}
use Rattle.json_lines.specs.declared.escapes.Held.TheVariants as held

-- ---- texts

-- no byte may begin one of these characters
abbrev pub Safe : List ℕ → Type 0
Safe [] = Unit {0}
Safe (x ∷ xs) = (may_be_control x ≡ false) × Safe xs

pub safe_append : (a b : List ℕ) → Safe a → Safe b → Safe (a ++ b)
safe_append [] b first second = second
safe_append (x ∷ xs) b first second = (first.0, safe_append xs b first.1 second)

-- no other byte is one of these three
first_of_other : (x : ℕ) → is_first x ≡ false → first_of x ≡ held.Nothing
first_of_other x apart =
    let parts = or_parts (x == 194) ((x == 216) || (x == 226)) apart in
    let more = or_parts (x == 216) (x == 226) parts.1 in rw (parts.0, more.0, more.1) refl

pub safe_kept : (text rest : List ℕ) → Safe text → escaped_from held.Nothing (text ++ rest) ≡ text ++ escaped_from held.Nothing rest
unfolding escaped_from
safe_kept [] rest safe = refl
safe_kept (x ∷ xs) rest safe =
    let parts = or_parts (x == 127) (is_first x) safe.0 in
    rw (parts.0, parts.1, first_of_other x parts.1) (ap (λ l. x ∷ l) (safe_kept xs rest safe.1))

prepend_none : (s : Option (List ℕ)) → s ≡ prepend [] s
prepend_none None = refl
prepend_none (Some s) = refl

prepend_one : (x : ℕ) (front : List ℕ) (s : Option (List ℕ)) → prepend (x ∷ []) (prepend front s) ≡ prepend (x ∷ front) s
prepend_one x front None = refl
prepend_one x front (Some s) = refl

-- ---- hexadecimal digits

picked : (test : Bool) (a b k : ℕ) → (test ≡ true → (a == k) ≡ false) → (test ≡ false → (b == k) ≡ false) → (cond test a b == k) ≡ false
picked true a b k low high = low refl
picked false a b k low high = high refl

digit_apart : (d k : ℕ) → (d < 10 → 48 + d ≡ k → ⊥) → (10 ≤ d → 87 + d ≡ k → ⊥) → (digit_char d == k) ≡ false
digit_apart d k low high =
    picked (nat_lt d 10) (48 + d) (87 + d) k (λ t. ne_eqb (48 + d) k (low (ltb-true d 10 t))) (λ f. ne_eqb (87 + d) k (high (ltb-false d 10 f)))

apart_safe : (d : ℕ) → d < 16 → may_be_control (digit_char d) ≡ false
apart_safe d small = rw (
  digit_apart d 127 (λ h e. omega arith) (λ h e. omega arith),
  digit_apart d 194 (λ h e. omega arith) (λ h e. omega arith),
  digit_apart d 216 (λ h e. omega arith) (λ h e. omega arith),
  digit_apart d 226 (λ h e. omega arith) (λ h e. omega arith),
) refl

pub spelled_safe : (x : ℕ) → x < 65536 → Safe (spelled x)
spelled_safe x small =
    (refl, (refl, (apart_safe (x / 4096) (omega arith), (apart_safe (x / 256 % 16) (omega arith), (apart_safe (x / 16 % 16) (omega arith), (apart_safe (x % 16) (omega arith), tt))))))

-- ---- the readers of an escape

apart_lexed : (d : ℕ) → d < 16 → ((digit_char d == 34) ≡ false) × ((digit_char d == 92) ≡ false)
apart_lexed d small = (digit_apart d 34 (λ h e. omega arith) (λ h e. omega arith), digit_apart d 92 (λ h e. omega arith) (λ h e. omega arith))

inside : (x : ℕ) (xs : List ℕ) → (x == 34) ≡ false → (x == 92) ≡ false → lex in_string (x ∷ xs) ≡ lex in_string xs
unfolding lex
inside x xs q b = rw (q, b) (stays (is_operator x) (is_space x))
  where
    stays : (o s : Bool) → lex_byte in_string (cond o operator (cond s space other)) x xs (λ m. lex m xs) ≡ lex in_string xs
    stays true s = refl
    stays false true = refl
    stays false false = refl

spelled_lexed : (x : ℕ) (t : List ℕ) → x < 65536 → lex in_string (spelled x ++ t) ≡ lex in_string t
unfolding lex
spelled_lexed x t small =
    let a = apart_lexed (x / 4096) (omega arith) in
    let b = apart_lexed (x / 256 % 16) (omega arith) in
    let c = apart_lexed (x / 16 % 16) (omega arith) in
    let d = apart_lexed (x % 16) (omega arith) in
    inside (digit_char (x / 4096)) (digit_char (x / 256 % 16) ∷ digit_char (x / 16 % 16) ∷ digit_char (x % 16) ∷ t) a.0 a.1
    ∙ inside (digit_char (x / 256 % 16)) (digit_char (x / 16 % 16) ∷ digit_char (x % 16) ∷ t) b.0 b.1
    ∙ inside (digit_char (x / 16 % 16)) (digit_char (x % 16) ∷ t) c.0 c.1
    ∙ inside (digit_char (x % 16)) t d.0 d.1

abbrev valued : ℕ → ℕ → ℕ → ℕ → ℕ
valued a b c d = a * 4096 + b * 256 + c * 16 + d

abbrev unit_by : ℕ → ℕ → ℕ → ℕ → Option ℕ
unit_by a b c d = cond (nat_lt a 16 && nat_lt b 16 && nat_lt c 16 && nat_lt d 16) (Some (valued a b c d)) None

small_unit : (a b c d : ℕ) → a < 16 → b < 16 → c < 16 → d < 16 → unit_by a b c d ≡ Some (valued a b c d)
small_unit a b c d p q r s = rw (lt-ltb a 16 p, lt-ltb b 16 q, lt-ltb c 16 r, lt-ltb d 16 s) refl

unit_of : (x : ℕ) → x < 65536 → code_unit (digit_char (x / 4096)) (digit_char (x / 256 % 16)) (digit_char (x / 16 % 16)) (digit_char (x % 16)) ≡ Some x
unfolding code_unit
unit_of x small =
    ap₂ (λ v w. unit_by v w (digit_value (digit_char (x / 16 % 16))) (digit_value (digit_char (x % 16)))) (digit_value-digit_char (x / 4096) (omega arith)) (digit_value-digit_char (x / 256 % 16) (omega arith))
    ∙ ap₂ (λ v w. unit_by (x / 4096) (x / 256 % 16) v w) (digit_value-digit_char (x / 16 % 16) (omega arith)) (digit_value-digit_char (x % 16) (omega arith))
    ∙ small_unit (x / 4096) (x / 256 % 16) (x / 16 % 16) (x % 16) (omega arith) (omega arith) (omega arith) (omega arith)
    ∙ ap Some (omega arith)

abbrev read_unit : List ℕ → ℕ → Option (List ℕ)
read_unit t u = cond (is_high_surrogate u) (content (after_high u) t) (cond (is_low_surrogate u) None (prepend (encode u) (content plain t)))

read_low : (x : ℕ) (t says : List ℕ) → x < 55296 → encode x ≡ says → read_unit t x ≡ prepend says (content plain t)
read_low x t says small is = rw (lt-leb 55296 x (omega arith), lt-leb 56320 x (omega arith), is) refl

spelled_read : (x : ℕ) (t says : List ℕ) → x < 55296 → encode x ≡ says → content plain (spelled x ++ t) ≡ prepend says (content plain t)
unfolding content
spelled_read x t says small is = ap (option_and_then (read_unit t)) (unit_of x (omega arith)) ∙ read_low x t says small is

encode_one : (x : ℕ) → x < 128 → encode x ≡ x ∷ []
unfolding encode
encode_one x small = rw (lt-ltb x 128 small) refl

encode_two : (x : ℕ) → 128 ≤ x → x < 160 → encode x ≡ 194 ∷ x ∷ []
unfolding encode
encode_two x low high = rw (le-ltb x 128 low, lt-ltb x 2048 (omega arith)) (ap₂ (λ (a b : ℕ). a ∷ b ∷ []) (omega arith) (omega arith))

three : (x a b c : ℕ) → 224 + x / 4096 ≡ a → 128 + x / 64 % 64 ≡ b → 128 + x % 64 ≡ c → 2048 ≤ x → x < 65536 → encode x ≡ a ∷ b ∷ c ∷ []
unfolding encode
three x a b c first second third low high =
    rw (le-ltb x 128 (omega arith), le-ltb x 2048 low, lt-ltb x 65536 high) (ap₂ (λ (p : ℕ) (q : List ℕ). p ∷ q) first (ap₂ (λ (p q : ℕ). p ∷ q ∷ []) second third))

-- ---- the characters that are escaped

-- A byte from 0x80 on ends the character c behind the held bytes.
pub record EndsAt (p : Held) (x c : ℕ) : Type 0 where
  pub above : 128 ≤ x
  pub below : c < 55296
  pub is : encode c ≡ bytes_of p ++ x ∷ []

mark_within : (x : ℕ) → ends_mark x ≡ true → (142 ≤ x) × (x < 175)
mark_within x is = elim (or_cases (x == 142) ((x == 143) || (nat_le 168 x && nat_lt x 175)) is) [
  | inl one ↦ let at = eqb-true x 142 one in (omega arith, omega arith)
  | inr more ↦ elim (or_cases (x == 143) (nat_le 168 x && nat_lt x 175) more) [
    | inl one ↦ let at = eqb-true x 143 one in (omega arith, omega arith)
    | inr range ↦
        let parts = and_parts (nat_le 168 x) (nat_lt x 175) range in
        let low = leb-true 168 x parts.0 in
        let high = ltb-true x 175 parts.1 in (omega arith, omega arith)
  ]
]

pub ends_at : (p : Held) (x : ℕ) → ends p x ≡ true → EndsAt p x (code_of p x)
unfolding encode
ends_at held.Nothing x is = absurd cc
ends_at held.General x is = absurd cc
ends_at held.Latin x is =
    let parts = and_parts (nat_le 128 x) (nat_lt x 160) is in
    let low = leb-true 128 x parts.0 in
    let high = ltb-true x 160 parts.1 in
    record { above = low; below = omega arith; is = encode_two x low high }
ends_at held.Arabic x is =
    let at = eqb-true x 156 is in
    record { above = omega arith; below = omega arith; is = rw at refl }
ends_at held.Marks x is =
    let within = mark_within x is in
    let low = within.0 in
    let high = within.1 in
    record {
      above = omega arith;
      below = omega arith;
      is = three (8064 + x) 226 128 x (omega arith) (omega arith) (omega arith) (omega arith) (omega arith);
    }
ends_at held.Isolates x is =
    let parts = and_parts (nat_le 166 x) (nat_lt x 170) is in
    let low = leb-true 166 x parts.0 in
    let high = ltb-true x 170 parts.1 in
    record {
      above = omega arith;
      below = omega arith;
      is = three (8128 + x) 226 129 x (omega arith) (omega arith) (omega arith) (omega arith) (omega arith);
    }

-- ---- held bytes

held_read : (p : Held) (t : List ℕ) → content plain (bytes_of p ++ t) ≡ prepend (bytes_of p) (content plain t)
unfolding content
held_read held.Nothing t = prepend_none (content plain t)
held_read held.Latin t = refl
held_read held.Arabic t = refl
held_read held.General t = refl
held_read held.Marks t = prepend_one 226 (128 ∷ []) (content plain t)
held_read held.Isolates t = prepend_one 226 (129 ∷ []) (content plain t)

held_lexed : (p : Held) (t : List ℕ) → lex in_string (bytes_of p ++ t) ≡ lex in_string t
unfolding lex
held_lexed held.Nothing t = refl
held_lexed held.Latin t = refl
held_lexed held.Arabic t = refl
held_lexed held.General t = refl
held_lexed held.Marks t = refl
held_lexed held.Isolates t = refl

-- The held bytes are written before a byte that neither ends nor continues one of these characters.
falls : (p : Held) (x : ℕ) (t : List ℕ) → ends p x ≡ false → joins p x ≡ false → escaped_from p (x ∷ t) ≡ bytes_of p ++ escaped_from held.Nothing (x ∷ t)
unfolding escaped_from
falls p x t no_end no_join = rw (no_end, no_join) (append_assoc (bytes_of p) (alone x) (escaped_from (first_of x) t))

-- a backslash is such a byte
escape_falls : (p : Held) (t : List ℕ) → escaped_from p (92 ∷ t) ≡ bytes_of p ++ escaped_from held.Nothing (92 ∷ t)
escape_falls p t = falls p 92 t (no_end p) (no_join p)
  where
    no_end : (p : Held) → ends p 92 ≡ false
    no_end held.Nothing = refl
    no_end held.Latin = refl
    no_end held.Arabic = refl
    no_end held.General = refl
    no_end held.Marks = refl
    no_end held.Isolates = refl

    no_join : (p : Held) → joins p 92 ≡ false
    no_join held.Nothing = refl
    no_join held.Latin = refl
    no_join held.Arabic = refl
    no_join held.General = refl
    no_join held.Marks = refl
    no_join held.Isolates = refl

-- ---- the step at a byte

-- The escape of x is written behind all held bytes.
abbrev Falls : ℕ → Type 0
Falls x = (p : Held) (t : List ℕ) → ends p x ≡ false → joins p x ≡ false → escaped_from p (escape_byte x ++ t) ≡ bytes_of p ++ escaped_from held.Nothing (escape_byte x ++ t)

-- The escape of x is written as `text`, and both readers pass over that.
record Stands (x : ℕ) : Type 0 where
  text : List ℕ
  kept : (t : List ℕ) → escaped_from held.Nothing (escape_byte x ++ t) ≡ text ++ escaped_from held.Nothing t
  after : Falls x
  read : (t : List ℕ) → content plain (text ++ t) ≡ prepend (x ∷ []) (content plain t)
  lexed : (t : List ℕ) → lex in_string (text ++ t) ≡ lex in_string t

-- At the byte x `text` is written and `says` is read from it; `next` is held then.
record Step (p : Held) (x : ℕ) : Type 0 where
  text : List ℕ
  says : List ℕ
  next : Held
  kept : (t : List ℕ) → escaped_from p (escape_byte x ++ t) ≡ text ++ escaped_from next t
  read : (t : List ℕ) → content plain (text ++ t) ≡ prepend says (content plain t)
  lexed : (t : List ℕ) → lex in_string (text ++ t) ≡ lex in_string t
  whole : says ++ bytes_of next ≡ bytes_of p ++ x ∷ []

spelled_stands : (x : ℕ) → x < 128 → escape_byte x ≡ spelled x → Stands x
spelled_stands x small is =
    record {
      text = spelled x;
      kept = λ t. rw is (safe_kept (spelled x) t (spelled_safe x (omega arith)));
      after = λ p t _ _. rw is (escape_falls p (117 ∷ digit_char (x / 4096) ∷ digit_char (x / 256 % 16) ∷ digit_char (x / 16 % 16) ∷ digit_char (x % 16) ∷ t));
      read = λ t. spelled_read x t (x ∷ []) (omega arith) (encode_one x small);
      lexed = λ t. spelled_lexed x t (omega arith);
    }

delete_stands : Stands 127
unfolding escaped_from escape_byte
delete_stands = record {
  text = spelled 127;
  kept = λ t. refl;
  after = λ p t no_end no_join. falls p 127 t no_end no_join;
  read = λ t. spelled_read 127 t (127 ∷ []) (omega arith) (encode_one 127 (omega arith));
  lexed = λ t. spelled_lexed 127 t (omega arith);
}

eight_stands : Stands 8
unfolding escaped_from escape_byte content lex short_escape
eight_stands = record { text = 92 ∷ 98 ∷ []; kept = λ t. refl; after = λ p t _ _. escape_falls p (98 ∷ t); read = λ t. refl; lexed = λ t. refl }

nine_stands : Stands 9
unfolding escaped_from escape_byte content lex short_escape
nine_stands = record { text = 92 ∷ 116 ∷ []; kept = λ t. refl; after = λ p t _ _. escape_falls p (116 ∷ t); read = λ t. refl; lexed = λ t. refl }

ten_stands : Stands 10
unfolding escaped_from escape_byte content lex short_escape
ten_stands = record { text = 92 ∷ 110 ∷ []; kept = λ t. refl; after = λ p t _ _. escape_falls p (110 ∷ t); read = λ t. refl; lexed = λ t. refl }

twelve_stands : Stands 12
unfolding escaped_from escape_byte content lex short_escape
twelve_stands = record { text = 92 ∷ 102 ∷ []; kept = λ t. refl; after = λ p t _ _. escape_falls p (102 ∷ t); read = λ t. refl; lexed = λ t. refl }

thirteen_stands : Stands 13
unfolding escaped_from escape_byte content lex short_escape
thirteen_stands = record { text = 92 ∷ 114 ∷ []; kept = λ t. refl; after = λ p t _ _. escape_falls p (114 ∷ t); read = λ t. refl; lexed = λ t. refl }

quote_stands : Stands 34
unfolding escaped_from escape_byte content lex short_escape
quote_stands = record { text = 92 ∷ 34 ∷ []; kept = λ t. refl; after = λ p t _ _. escape_falls p (34 ∷ t); read = λ t. refl; lexed = λ t. refl }

backslash_stands : Stands 92
unfolding escaped_from escape_byte content lex short_escape
backslash_stands = record { text = 92 ∷ 92 ∷ []; kept = λ t. refl; after = λ p t _ _. escape_falls p (92 ∷ t); read = λ t. refl; lexed = λ t. refl }

pair_small : (x : ℕ) → x < 32 → spelled x ≡ 92 ∷ 117 ∷ 48 ∷ 48 ∷ digit_char (x / 16) ∷ digit_char (x % 16) ∷ []
pair_small x small =
    let a : x / 4096 ≡ 0 = omega arith in
    let b : x / 256 % 16 ≡ 0 = omega arith in
    let c : x / 16 % 16 ≡ x / 16 = omega arith in rw (a, b, c) refl

spelled_escape : (x : ℕ) → x < 32 → (x ≡ 8 → ⊥) → (x ≡ 9 → ⊥) → (x ≡ 10 → ⊥) → (x ≡ 12 → ⊥) → (x ≡ 13 → ⊥) → escape_byte x ≡ spelled x
unfolding escape_byte
spelled_escape x small a b c d e =
    rw (
      ne_eqb x 34 (λ is. omega arith),
      ne_eqb x 92 (λ is. omega arith),
      ne_eqb x 8 a,
      ne_eqb x 12 d,
      ne_eqb x 10 c,
      ne_eqb x 13 e,
      ne_eqb x 9 b,
      lt-ltb x 32 small,
    ) (sym (pair_small x small))

other_stands : (x : ℕ) → x < 32 → (x ≡ 8 → ⊥) → (x ≡ 9 → ⊥) → (x ≡ 10 → ⊥) → (x ≡ 12 → ⊥) → (x ≡ 13 → ⊥) → Stands x
other_stands x small a b c d e = spelled_stands x (omega arith) (spelled_escape x small a b c d e)

control_stands : (x : ℕ) → x < 32 → Stands x
control_stands x small = go (cases_eq x 8) (cases_eq x 9) (cases_eq x 10) (cases_eq x 12) (cases_eq x 13)
  where
    go : (x ≡ 8) ⊎ (x ≡ 8 → ⊥) → (x ≡ 9) ⊎ (x ≡ 9 → ⊥) → (x ≡ 10) ⊎ (x ≡ 10 → ⊥) → (x ≡ 12) ⊎ (x ≡ 12 → ⊥) → (x ≡ 13) ⊎ (x ≡ 13 → ⊥) → Stands x
    go (inl is) b c d e = subst Stands (sym is) eight_stands
    go (inr a) (inl is) c d e = subst Stands (sym is) nine_stands
    go (inr a) (inr b) (inl is) d e = subst Stands (sym is) ten_stands
    go (inr a) (inr b) (inr c) (inl is) e = subst Stands (sym is) twelve_stands
    go (inr a) (inr b) (inr c) (inr d) (inl is) = subst Stands (sym is) thirteen_stands
    go (inr a) (inr b) (inr c) (inr d) (inr e) = other_stands x small a b c d e

plain_stands : (x : ℕ) → (x ≡ 34 → ⊥) → (x ≡ 92 → ⊥) → (x ≡ 127 → ⊥) → is_first x ≡ false → 32 ≤ x → Stands x
unfolding escaped_from content
plain_stands x q b d apart above =
    let same = escape_byte_plain x q b above in
    let no_delete = ne_eqb x 127 d in
    record {
      text = x ∷ [];
      kept = λ t. rw (same, no_delete, apart, first_of_other x apart) refl;
      after = λ p t no_end no_join. rw same (falls p x t no_end no_join);
      read = λ t. rw (ne_eqb x 34 q, ne_eqb x 92 b, le-ltb x 32 above) refl;
      lexed = λ t. inside x t (ne_eqb x 34 q) (ne_eqb x 92 b);
    }

stands : (x : ℕ) → is_first x ≡ false → Stands x
stands x l = go (cases_eq x 34) (cases_eq x 92) (cases_eq x 127) (cases_lt x 32)
  where
    go : (x ≡ 34) ⊎ (x ≡ 34 → ⊥) → (x ≡ 92) ⊎ (x ≡ 92 → ⊥) → (x ≡ 127) ⊎ (x ≡ 127 → ⊥) → (x < 32) ⊎ (32 ≤ x) → Stands x
    go (inl is) b d low = subst Stands (sym is) quote_stands
    go (inr q) (inl is) d low = subst Stands (sym is) backslash_stands
    go (inr q) (inr b) (inl is) low = subst Stands (sym is) delete_stands
    go (inr q) (inr b) (inr d) (inl low) = control_stands x low
    go (inr q) (inr b) (inr d) (inr above) = plain_stands x q b d l above

-- a byte from 0x80 on is written as it is in a string
high_plain : (x : ℕ) → 128 ≤ x → escape_byte x ≡ x ∷ []
high_plain x above = escape_byte_plain x (λ is. omega arith) (λ is. omega arith) (omega arith)

end_step : (p : Held) (x : ℕ) → ends p x ≡ true → Step p x
unfolding escaped_from
end_step p x is =
    let at = ends_at p x is in
    let below = at.below in
    record {
      text = spelled (code_of p x);
      says = bytes_of p ++ x ∷ [];
      next = held.Nothing;
      kept = λ t. rw (high_plain x at.above, is) refl;
      read = λ t. spelled_read (code_of p x) t (bytes_of p ++ x ∷ []) at.below at.is;
      lexed = λ t. spelled_lexed (code_of p x) t (omega arith);
      whole = append-nil (bytes_of p ++ x ∷ []);
    }

join_step : (p : Held) (x : ℕ) → joins p x ≡ true → Step p x
unfolding escaped_from escape_byte
join_step held.Nothing x is = absurd cc
join_step held.Latin x is = absurd cc
join_step held.Arabic x is = absurd cc
join_step held.Marks x is = absurd cc
join_step held.Isolates x is = absurd cc
join_step held.General x is = elim (or_cases (x == 128) (x == 129) is) [
  | inl one ↦ subst (Step held.General) (sym (eqb-true x 128 one)) (record {
    text = [];
    says = [];
    next = held.Marks;
    kept = λ t. refl;
    read = λ t. prepend_none (content plain t);
    lexed = λ t. refl;
    whole = refl;
  })
  | inr two ↦ subst (Step held.General) (sym (eqb-true x 129 two)) (record {
    text = [];
    says = [];
    next = held.Isolates;
    kept = λ t. refl;
    read = λ t. prepend_none (content plain t);
    lexed = λ t. refl;
    whole = refl;
  })
]

-- A first byte is held.
record IsHeld (x : ℕ) : Type 0 where
  above : 128 ≤ x
  is : bytes_of (first_of x) ≡ x ∷ []

is_held : (x : ℕ) → is_first x ≡ true → IsHeld x
is_held x is = elim (or_cases (x == 194) ((x == 216) || (x == 226)) is) [
  | inl one ↦ subst IsHeld (sym (eqb-true x 194 one)) (record { above = omega arith; is = refl })
  | inr more ↦ elim (or_cases (x == 216) (x == 226) more) [
    | inl one ↦ subst IsHeld (sym (eqb-true x 216 one)) (record { above = omega arith; is = refl })
    | inr one ↦ subst IsHeld (sym (eqb-true x 226 one)) (record { above = omega arith; is = refl })
  ]
]

no_delete : (x : ℕ) → 128 ≤ x → (x == 127) ≡ false
no_delete x above = ne_eqb x 127 (λ is. omega arith)

first_step : (p : Held) (x : ℕ) → ends p x ≡ false → joins p x ≡ false → is_first x ≡ true → Step p x
unfolding escaped_from
first_step p x no_end no_join first =
    let at = is_held x first in
    record {
      text = bytes_of p;
      says = bytes_of p;
      next = first_of x;
      kept = λ t. rw (high_plain x at.above, no_end, no_join, no_delete x at.above, first) (ap (λ l. l ++ escaped_from (first_of x) t) (append-nil (bytes_of p)));
      read = held_read p;
      lexed = held_lexed p;
      whole = ap (λ l. bytes_of p ++ l) at.is;
    }

prepend_both : (a b : List ℕ) (s : Option (List ℕ)) → prepend a (prepend b s) ≡ prepend (a ++ b) s
prepend_both a b None = refl
prepend_both a b (Some s) = ap Some (sym (append_assoc a b s))

plain_step : (p : Held) (x : ℕ) → ends p x ≡ false → joins p x ≡ false → Stands x → Step p x
plain_step p x no_end no_join s =
    record {
      text = bytes_of p ++ s.text;
      says = bytes_of p ++ x ∷ [];
      next = held.Nothing;
      kept = λ t. s.after p t no_end no_join ∙ ap (λ l. bytes_of p ++ l) (s.kept t) ∙ sym (append_assoc (bytes_of p) s.text (escaped_from held.Nothing t));
      read = λ t. ap (content plain) (append_assoc (bytes_of p) s.text t) ∙ held_read p (s.text ++ t) ∙ ap (prepend (bytes_of p)) (s.read t) ∙ prepend_both (bytes_of p) (x ∷ []) (content plain t);
      lexed = λ t. ap (lex in_string) (append_assoc (bytes_of p) s.text t) ∙ held_lexed p (s.text ++ t) ∙ s.lexed t;
      whole = append-nil (bytes_of p ++ x ∷ []);
    }

step : (p : Held) (x : ℕ) → Step p x
step p x = elim (cases_Bool (ends p x)) [
  | inl end ↦ end_step p x end
  | inr no_end ↦ elim (cases_Bool (joins p x)) [
    | inl join ↦ join_step p x join
    | inr no_join ↦ elim (cases_Bool (is_first x)) [
      | inl first ↦ first_step p x no_end no_join first
      | inr apart ↦ plain_step p x no_end no_join (stands x apart)
    ]
  ]
]

-- ---- whole strings

pub read_string : (p : Held) (s r : List ℕ) → content plain (escaped_from p (escape s ++ 34 ∷ r)) ≡ Some (bytes_of p ++ s)
unfolding escaped_from content
read_string held.Nothing [] r = refl
read_string held.Latin [] r = refl
read_string held.Arabic [] r = refl
read_string held.General [] r = refl
read_string held.Marks [] r = refl
read_string held.Isolates [] r = refl
read_string p (x ∷ s) r =
    let at = step p x in
    ap (λ l. content plain (escaped_from p l)) (append_assoc (escape_byte x) (escape s) (34 ∷ r)) ∙ ap (content plain) (at.kept (escape s ++ 34 ∷ r)) ∙ at.read (escaped_from at.next (escape s ++ 34 ∷ r))
    ∙ ap (prepend at.says) (read_string at.next s r)
    ∙ ap Some (sym (append_assoc at.says (bytes_of at.next) s) ∙ ap (λ l. l ++ s) at.whole ∙ append_assoc (bytes_of p) (x ∷ []) s)

pub lex_string : (p : Held) (s r : List ℕ) → lex in_string (escaped_from p (escape s ++ 34 ∷ r)) ≡ lex between (escaped_from held.Nothing r)
unfolding escaped_from lex
lex_string held.Nothing [] r = refl
lex_string held.Latin [] r = refl
lex_string held.Arabic [] r = refl
lex_string held.General [] r = refl
lex_string held.Marks [] r = refl
lex_string held.Isolates [] r = refl
lex_string p (x ∷ s) r =
    let at = step p x in
    ap (λ l. lex in_string (escaped_from p l)) (append_assoc (escape_byte x) (escape s) (34 ∷ r)) ∙ ap (lex in_string) (at.kept (escape s ++ 34 ∷ r)) ∙ at.lexed (escaped_from at.next (escape s ++ 34 ∷ r))
    ∙ lex_string at.next s r
