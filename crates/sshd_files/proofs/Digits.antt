-- Decimal digits are a text, and what the standard library reads from it.
use Rattle.std.proofs.lemmas.Grind.{common_steps}
use Rattle.std.proofs.Common.{◌≡◌, ℕ, ◌^◌, ◌<◌, ◌≤◌, nat_lt, true, List, [], ◌∷◌, length, get_or, Result, Ok, Err, refl}
use Rattle.std.proofs.Common.{arith, inl, inr, zero, suc}
use Rattle.std.proofs.lemmas.Bool.{cases_lt, le-ltb, lt-ltb, ne_eqb, and_parts}
use Rattle.std.proofs.lemmas.Bool.Decides.{nat_tests}
use Rattle.std.proofs.lemmas.List.{get_or_past}
use Rattle.std.proofs.lemmas.Str.{IsUtf8-from_ascii}
use Rattle.std.specs.Char.{digit_value}
use Rattle.std.specs.List.{list_all}
use Rattle.std.specs.Result.{OkIff, result_ok}
use Rattle.std.specs.Str.{IsUtf8}
use Rattle.std.specs.Str.Parse.{AllDigits, IsNumeral, ParsesUnsigned, digits_value, without_leading_plus}
use Rattle.sshd_files.specs.Users.{are_digits, is_digit, number_of}

digit_bounds : (byte : ℕ) → is_digit byte ≡ true → (48 ≤ byte) × (byte ≤ 57)
digit_bounds byte h = grind (arith, nat_tests)

digit_fits : (byte : ℕ) → 48 ≤ byte → byte ≤ 57 → digit_value byte < 10
digit_fits byte low high = grind (arith, common_steps, digit_value)

all_digits : (digits : List ℕ) → list_all is_digit digits ≡ true → AllDigits 10 digits
all_digits [] each = tt
all_digits (byte ∷ digits) each =
    let both = and_parts (is_digit byte) (list_all is_digit digits) each in
    let bounds = digit_bounds byte both.0 in
    (digit_fits byte bounds.0 bounds.1, all_digits digits both.1)

bounds_at : (digits : List ℕ) → list_all is_digit digits ≡ true → (i : ℕ) → i < length digits
    → (48 ≤ get_or digits i 0) × (get_or digits i 0 ≤ 57)
bounds_at [] each i lt = absurd (omega arith)
bounds_at (byte ∷ digits) each zero lt = digit_bounds byte (and_parts (is_digit byte) (list_all is_digit digits) each).0
bounds_at (byte ∷ digits) each (suc i) lt =
    bounds_at digits (and_parts (is_digit byte) (list_all is_digit digits) each).1 i (omega arith)

pub digits_are_text : (digits : List ℕ) → are_digits digits ≡ true → IsUtf8 digits
digits_are_text digits is = IsUtf8-from_ascii digits (λ i. elim (cases_lt i (length digits)) [
  | inl lt ↦ let bounds = bounds_at digits (and_parts (nat_lt 0 (length digits)) _ is).1 i lt in omega arith
  | inr le ↦ omega (arith, get_or_past digits i 0 le)
])

is_some : (digits : List ℕ) → are_digits digits ≡ true → 0 < length digits
is_some digits is = let h = (and_parts (nat_lt 0 (length digits)) _ is).0 in grind (arith, nat_tests)

no_plus : (digits : List ℕ) → are_digits digits ≡ true → without_leading_plus digits ≡ digits
no_plus digits is =
    let bounds = bounds_at digits (and_parts (nat_lt 0 (length digits)) _ is).1 0 (is_some digits is) in
    rw (ne_eqb (get_or digits 0 0) 43 (omega arith)) refl

number_by_cases : {E : Type 0} (digits : List ℕ) (r : Result ℕ E) → are_digits digits ≡ true
    → OkIff r (IsNumeral 10 digits × (digits_value 10 digits < 2 ^ 32)) (digits_value 10 digits)
    → IsNumeral 10 digits → result_ok r ≡ number_of digits
unfolding number_of
number_by_cases digits (Ok n) is read numeral = rw is (grind (arith, common_steps, lt-ltb, nat_lt))
number_by_cases digits (Err e) is read numeral = rw is (grind (arith, common_steps, cases_lt, le-ltb, nat_lt))

pub number_is_read : {E : Type 0} (digits : List ℕ) (r : Result ℕ E) → are_digits digits ≡ true
    → ParsesUnsigned 32 10 digits r
    → result_ok r ≡ number_of digits
number_is_read digits r is read =
    number_by_cases digits r is (rw (no_plus digits is) at read)
    (is_some digits is, all_digits digits (and_parts (nat_lt 0 (length digits)) _ is).1)
