-- Numbers in specification files (ssh-keygen(1), KEY REVOCATION LISTS): hexadecimal after `0x`,
-- octal after another `0`, otherwise decimal.
use Rattle.std.specs.Prelude.{ℕ, Bool, ◌+◌, ◌^◌, ◌==◌, ◌&&◌, ◌||◌, nat_lt, if◌then◌else◌, List, []}
use Rattle.std.specs.Prelude.{◌∷◌, length, drop, Option, Some, None, Result, Ok, Err}
use Rattle.std.specs.Char.{is_digit}
use Rattle.std.specs.List.{before_first, list_all, position_or_len}
use Rattle.std.specs.Str.Parse.{digits_value}
use Rattle.ssh_wire.specs.Ascii.{digit_zero, hyphen, lower_x, upper_x}
use Rattle.key_text.specs.Blanks.{after_blanks}
use Rattle.krl_spec.specs.Blanks.{before_blanks}
use Rattle.krl_spec.specs.declared.number.Bounds.{Bounds}
use Rattle.run_faults.specs.declared.spec_cause.SpecCause.{SpecCause}
use Rattle.run_faults.specs.declared.spec_cause.SpecCause.TheVariants as causes

-- how a number is spelled: its base, and its digits
pub record Spelling : Type 0 where
  pub base : ℕ
  pub digits : List ℕ

-- the second byte is not `x`, or the first is not `0`
abbrev pub plain_spelling : ℕ → List ℕ → Spelling
plain_spelling first rest =
    record { base = if first == digit_zero then 8 else 10; digits = first ∷ rest }

abbrev pub spelling : List ℕ → Spelling
spelling [] = record { base = 10; digits = [] }
spelling (first ∷ []) = plain_spelling first []
spelling (first ∷ second ∷ rest) =
    if first == digit_zero && (second == lower_x || second == upper_x)
    then record { base = 16; digits = rest }
    else plain_spelling first (second ∷ rest)

-- at least one digit, each of the base, and the number is below 2^64
abbrev pub spells_number : ℕ → List ℕ → Bool
spells_number base digits =
    nat_lt 0 (length digits) && list_all (λ c. is_digit c base) digits
    && nat_lt (digits_value base digits) (2 ^ 64)

unfoldable pub number_in : ℕ → List ℕ → Option ℕ
number_in base digits =
    if spells_number base digits then Some (digits_value base digits) else None

-- the number that the text spells
unfoldable pub number_of_text : List ℕ → Option ℕ
number_of_text text = number_in (spelling text).base (spelling text).digits

abbrev pub both : Option ℕ → Option ℕ → Option Bounds
both None hi = None
both (Some lo) None = None
both (Some lo) (Some hi) = Some (record { lo = lo; hi = hi })

abbrev pub is_hyphen : ℕ → Bool
is_hyphen byte = byte == hyphen

-- a number, or two around a hyphen and blanks
unfoldable pub bounds_of_text : List ℕ → Option Bounds
bounds_of_text text =
    if nat_lt (position_or_len is_hyphen text) (length text)
    then both (number_of_text (before_blanks (before_first is_hyphen text)))
    (number_of_text (after_blanks (drop (position_or_len is_hyphen text + 1) text)))
    else both (number_of_text text) (number_of_text text)

-- a range of serials: neither number is 0, and the last is not below the first
abbrev pub serials_within : Bounds → Result Bounds SpecCause
serials_within bounds =
    if bounds.lo == 0 || bounds.hi == 0 then Err causes.Zero
    else if nat_lt bounds.hi bounds.lo then Err causes.Reversed
    else Ok bounds

abbrev pub serials_or_number : Option Bounds → Result Bounds SpecCause
serials_or_number None = Err causes.Number
serials_or_number (Some bounds) = serials_within bounds

-- the serials that a text names
unfoldable pub serials_of_text : List ℕ → Result Bounds SpecCause
serials_of_text text = serials_or_number (bounds_of_text text)
