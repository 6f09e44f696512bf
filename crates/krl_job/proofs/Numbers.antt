-- Texts that are numbers, and others.
use Rattle.std.proofs.Common.{◌≡◌, ℕ, ◌<◌, ◌≤◌, ◌^◌, ◌==◌, ◌&&◌, Bool, true, false, List, [], ◌∷◌, length, nat_le, nat_lt, Some, None, refl, sym, arith}
use Rattle.std.specs.Char.{digit_value, is_ascii_digit}
use Rattle.std.specs.List.{list_all}
use Rattle.std.specs.Str.Parse.{AllDigits, IsNumeral, digits_value, without_leading_plus}
use Rattle.std.proofs.Math.Bool.{and-false}
use Rattle.std.proofs.lemmas.Bool.{and_parts}
use Rattle.std.proofs.lemmas.Bool.Decides.{nat_tests}
use Rattle.krl_job.specs.Job.{is_number, number_of}

pub no_number : (text : List ℕ) → is_number text ≡ false → number_of text ≡ None
no_number text fails = rw fails refl

pub too_long : (text : List ℕ) → 20 < length text → number_of text ≡ None
too_long text long =
    let fails : nat_le (length text) 20 ≡ false = grind (arith, nat_tests) in
    no_number text (rw fails refl)

pub no_digits : (text : List ℕ) → list_all is_ascii_digit text ≡ false → number_of text ≡ None
no_digits text fails = no_number text (rw fails (and-false (nat_le (length text) 20)))

digit_of : (c : ℕ) → is_ascii_digit c ≡ true → (48 ≤ c) × (c ≤ 57)
digit_of c holds =
    let p = and_parts (nat_le 48 c) (nat_le c 57) holds in
    (grind (arith, nat_tests), grind (arith, nat_tests))

value_below : (c : ℕ) → 48 ≤ c → c ≤ 57 → digit_value c < 10
value_below c low high = grind (arith, nat_tests)

pub all_digits : (text : List ℕ) → list_all is_ascii_digit text ≡ true → AllDigits 10 text
all_digits [] holds = tt
all_digits (c ∷ text) holds =
    let p = and_parts (is_ascii_digit c) (list_all is_ascii_digit text) holds in
    let d = digit_of c p.0 in
    (value_below c d.0 d.1, all_digits text p.1)

-- digits have no sign
pub no_plus : (text : List ℕ) → list_all is_ascii_digit text ≡ true → without_leading_plus text ≡ text
no_plus [] holds = refl
no_plus (c ∷ text) holds =
    let p = and_parts (is_ascii_digit c) (list_all is_ascii_digit text) holds in
    let d = digit_of c p.0 in
    let fails : (c == 43) ≡ false = grind (arith, nat_tests) in
    rw fails refl

pub is_read : (text : List ℕ) (number : ℕ) → length text ≤ 20 → list_all is_ascii_digit text ≡ true
    → (IsNumeral 10 (without_leading_plus text) × (digits_value 10 (without_leading_plus text) < 2 ^ 64)) × (number ≡ digits_value 10 (without_leading_plus text))
    → number_of text ≡ Some number
is_read text number short holds parsed =
    let p = rw (no_plus text holds) at parsed in
    let some = p.0.0.0 in
    let fits = p.0.1 in
    let a : nat_le (length text) 20 ≡ true = grind (arith, nat_tests) in
    let b : nat_lt 0 (length text) ≡ true = grind (arith, nat_tests) in
    let c : nat_lt (digits_value 10 text) (2 ^ 64) ≡ true = grind (arith, nat_tests) in
    rw (a, holds, b, c, sym p.1) refl

pub not_parsed : (text : List ℕ) → list_all is_ascii_digit text ≡ true
    → (IsNumeral 10 (without_leading_plus text) × (digits_value 10 (without_leading_plus text) < 2 ^ 64) → ⊥)
    → number_of text ≡ None
not_parsed text holds refused =
    let fails = rw (no_plus text holds) at refused in
    no_number text (tests (nat_le (length text) 20) (list_all is_ascii_digit text) (λ some fits. fails ((some, all_digits text holds), fits)))
  where
    tests : (a b : Bool) → (0 < length text → digits_value 10 text < 2 ^ 64 → ⊥) → a && (b && (nat_lt 0 (length text) && nat_lt (digits_value 10 text) (2 ^ 64))) ≡ false
    tests true true none = none_of (nat_lt 0 (length text)) (nat_lt (digits_value 10 text) (2 ^ 64)) refl refl none
      where
        none_of : (x y : Bool) → x ≡ nat_lt 0 (length text) → y ≡ nat_lt (digits_value 10 text) (2 ^ 64) → (0 < length text → digits_value 10 text < 2 ^ 64 → ⊥) → x && y ≡ false
        none_of true true is_x is_y none = absurd (none (grind (arith, nat_tests)) (grind (arith, nat_tests)))
        none_of true false is_x is_y none = refl
        none_of false y is_x is_y none = refl
    tests true false none = refl
    tests false b none = refl
