-- The digits of a word are a text, and what the standard library reads from it.
use Rattle.std.proofs.lemmas.Grind.{common_steps}
use Rattle.std.proofs.Common.{◌≡◌, ℕ, ◌^◌, ◌<◌, ◌≤◌, nat_lt, true, List, [], ◌∷◌, length, get_or, Result, Ok, Err, refl}
use Rattle.std.proofs.Common.{arith, inl, inr}
use Rattle.std.proofs.lemmas.Bool.{cases_lt, le-ltb, lt-ltb, ne_eqb}
use Rattle.std.proofs.lemmas.Bool.Decides.{nat_tests}
use Rattle.std.proofs.lemmas.List.{get_or_past}
use Rattle.std.proofs.lemmas.List.Elements.{All-tail}
use Rattle.std.proofs.lemmas.Str.{IsUtf8-from_ascii}
use Rattle.std.specs.Char.{digit_value}
use Rattle.std.specs.List.{AllPass}
use Rattle.std.specs.Result.{OkIff, result_ok}
use Rattle.std.specs.Str.{IsUtf8}
use Rattle.std.specs.Str.Parse.{AllDigits, IsNumeral, ParsesUnsigned, digits_value, without_leading_plus}
use Rattle.login_lines.specs.declared.words.Class.TheVariants.{Digit}
use Rattle.login_lines.specs.Numbers.{number_of}
use Rattle.login_lines.specs.Words.{IsWordOf, passes}

digit_bounds : (byte : ℕ) → passes Digit byte ≡ true → (48 ≤ byte) × (byte ≤ 57)
digit_bounds byte h = grind (arith, nat_tests)

digit_fits : (byte : ℕ) → 48 ≤ byte → byte ≤ 57 → digit_value byte < 10
digit_fits byte low high = grind (arith, common_steps, digit_value)

all_digits : (digits : List ℕ) → AllPass (passes Digit) digits → AllDigits 10 digits
all_digits [] each = tt
all_digits (byte ∷ digits) each =
    let bounds = digit_bounds byte (each 0 0 (omega arith)) in
    (digit_fits byte bounds.0 bounds.1, all_digits digits (All-tail (λ (x : ℕ). passes Digit x ≡ true) byte digits each))

pub digits_are_text : (digits : List ℕ) → IsWordOf Digit digits → IsUtf8 digits
digits_are_text digits is = IsUtf8-from_ascii digits (λ i. elim (cases_lt i (length digits)) [
  | inl lt ↦ let bounds = digit_bounds (get_or digits i 0) (is.each i 0 lt) in omega arith
  | inr le ↦ omega (arith, get_or_past digits i 0 le)
])

no_plus : (digits : List ℕ) → IsWordOf Digit digits → without_leading_plus digits ≡ digits
no_plus digits is =
    let bounds = digit_bounds (get_or digits 0 0) (is.each 0 0 is.some) in
    rw (ne_eqb (get_or digits 0 0) 43 (omega arith)) refl

number_by_cases : {E : Type 0} (digits : List ℕ) (r : Result ℕ E)
    → OkIff r (IsNumeral 10 digits × (digits_value 10 digits < 2 ^ 64)) (digits_value 10 digits)
    → IsNumeral 10 digits → result_ok r ≡ number_of digits
unfolding number_of
number_by_cases digits (Ok n) read numeral = grind (arith, common_steps, lt-ltb, nat_lt)
number_by_cases digits (Err e) read numeral = grind (arith, common_steps, cases_lt, le-ltb, nat_lt)

pub number_is_read : {E : Type 0} (digits : List ℕ) (r : Result ℕ E) → IsWordOf Digit digits
    → ParsesUnsigned 64 10 digits r
    → result_ok r ≡ number_of digits
number_is_read digits r is read =
    number_by_cases digits r (rw (no_plus digits is) at read) (is.some, all_digits digits is.each)
