-- The digits and the unit of a duration.
use Rattle.std.proofs.Common.{◌≡◌, ℕ, ◌+◌, ◌<◌, ◌-◌, zero, suc, Bool, true, false, List, [], ◌∷◌, ◌++◌, length, get_or, Some, None, refl, sym, arith}
use Rattle.std.specs.Prelude.{nat_le, slice_get}
use Rattle.std.specs.Char.{is_ascii_digit}
use Rattle.std.specs.List.{list_all}
use Rattle.std.specs.Str.{IsUtf8}
use Rattle.std.proofs.Math.Seq.{take-append_seam}
use Rattle.std.proofs.lemmas.Bool.{and_parts}
use Rattle.std.proofs.lemmas.Bool.Decides.{nat_tests}
use Rattle.std.proofs.lemmas.Str.{IsUtf8-from_ascii}
use Rattle.krl_job.proofs.Numbers.{no_digits}
use Rattle.krl_job.specs.Job.{number_of}
use Rattle.krl_arguments.specs.Duration.{duration_of, seconds_of, whole_seconds}

last : (rest : List ℕ) (unit : ℕ) → slice_get (rest ++ unit ∷ []) (length rest) ≡ Some unit
last [] unit = refl
last (digit ∷ rest) unit = last rest unit

-- the digits before the last byte, and the last byte
pub duration_by : (text rest : List ℕ) (unit : ℕ) → text ≡ rest ++ unit ∷ [] → length rest + 1 ≡ length text → duration_of text ≡ whole_seconds (number_of rest) (seconds_of unit)
unfolding duration_of
duration_by text rest unit is len =
    let before : length text - 1 ≡ length rest = omega (arith, len) in
    rw (before, is, take-append_seam rest (unit ∷ []), last rest unit) refl

-- a text without a byte is no duration
pub no_duration : (text : List ℕ) → length text ≡ 0 → duration_of text ≡ None
unfolding duration_of
no_duration [] none = refl
no_duration (c ∷ text) none = absurd (omega (arith, none))

low : (c : ℕ) → is_ascii_digit c ≡ true → c < 128
low c holds =
    let p = and_parts (nat_le 48 c) (nat_le c 57) holds in
    grind (arith, nat_tests)

-- digits are ASCII
ascii : (text : List ℕ) → list_all is_ascii_digit text ≡ true → (i : ℕ) → get_or text i 0 < 128
ascii [] holds i = omega arith
ascii (c ∷ text) holds zero = low c (and_parts (is_ascii_digit c) (list_all is_ascii_digit text) holds).0
ascii (c ∷ text) holds (suc i) = ascii text (and_parts (is_ascii_digit c) (list_all is_ascii_digit text) holds).1 i

-- bytes that are not UTF-8 are no number
pub no_text : (text : List ℕ) → (IsUtf8 text → ⊥) → None ≡ number_of text
no_text text other = by_test (list_all is_ascii_digit text) refl
  where
    by_test : (all : Bool) → list_all is_ascii_digit text ≡ all → None ≡ number_of text
    by_test true is = absurd (other (IsUtf8-from_ascii text (ascii text is)))
    by_test false is = sym (no_digits text is)
