-- Decimal numbers.
use Rattle.std.specs.Prelude.{◌≡◌, ℕ, ◌^◌, ◌<◌, nat_lt, if◌then◌else◌, List, Option, Some, None}
use Rattle.std.specs.Str.Parse.{digits_value}
use Rattle.login_lines.specs.declared.words.Class.TheVariants.{Digit}
use Rattle.login_lines.specs.Words.{IsWordOf}

-- the digits of a number below 2^64
pub record IsNumber (digits : List ℕ) (n : ℕ) : Type 0 where
  pub are_digits : IsWordOf Digit digits
  pub value : digits_value 10 digits ≡ n
  pub below : n < 2 ^ 64

-- the number of digits
unfoldable pub number_of : List ℕ → Option ℕ
number_of digits =
    if nat_lt (digits_value 10 digits) (2 ^ 64) then Some (digits_value 10 digits) else None
