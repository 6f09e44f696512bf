-- The spelling of lines of specification files (ssh-keygen(1), KEY REVOCATION LISTS).
use Rattle.std.specs.Prelude.{◌≡◌, ◌≢◌, ℕ, ◌^◌, ◌<◌, ◌⊎◌, not, List, [], ◌∷◌, ◌++◌}
use Rattle.std.specs.Prelude.{codes, slice_index, ⊤}
use Rattle.std.specs.List.{AllPass, prefix_len, suffix_len}
use Rattle.std.specs.Str.{byte, str_to_ascii_lowercase}
use Rattle.std.specs.Str.Parse.{IsNumeral, digits_value}
use Rattle.ssh_wire.specs.Ascii.{number_sign}
use Rattle.key_text.specs.Blanks.{BeginsWithNoBlank, is_blank, is_ending}
use Rattle.krl_spec.specs.Blanks.{is_hash}
use Rattle.krl_spec.specs.Directive.{name_of}
use Rattle.krl_spec.specs.declared.directive.Directive.{Directive}

-- ---- numbers

-- at least one digit of the base, and the number below 2^64 that the digits write
pub record AreDigits (base : ℕ) (digits : List ℕ) (n : ℕ) : Type 0 where
  pub numeral : IsNumeral base digits
  pub value : n ≡ digits_value base digits
  pub fits : n < 2 ^ 64

-- `0x` or `0X` and hexadecimal digits; octal digits of which the first is 0; or decimal digits of
-- which the first is not 0
pub data IsNumber (text : List ℕ) (n : ℕ) : Type 0 where
  hexadecimal : (digits : List ℕ) → (text ≡ codes "0x" ++ digits) ⊎ (text ≡ codes "0X" ++ digits)
      → AreDigits 16 digits n → IsNumber text n
  octal : slice_index text 0 ≡ byte "0" → AreDigits 8 text n → IsNumber text n
  decimal : slice_index text 0 ≢ byte "0" → AreDigits 10 text n → IsNumber text n

-- a number, or two around a hyphen, which may be between blanks
pub data AreBounds (text : List ℕ) (lo hi : ℕ) : Type 0 where
  one_number : IsNumber text lo → lo ≡ hi → AreBounds text lo hi
  two_numbers : (first before after last : List ℕ)
      → text ≡ first ++ (before ++ (codes "-" ++ (after ++ last)))
      → AllPass is_blank before → AllPass is_blank after
      → IsNumber first lo → IsNumber last hi → AreBounds text lo hi

-- ---- directives

-- The name of a directive in upper or lower case, a colon, any number of blanks, and an argument.
pub record IsOrder (text : List ℕ) (directive : Directive) (given : List ℕ) : Type 0 where
  pub name : List ℕ
  pub blanks : List ℕ
  pub spelled : text ≡ name ++ (codes ":" ++ (blanks ++ given))
  pub named : str_to_ascii_lowercase name ≡ name_of directive
  pub are_blanks : AllPass is_blank blanks
  pub bare : BeginsWithNoBlank given

-- ---- lines

-- nothing, or a `#` and what follows it
abbrev pub IsRemark : List ℕ → Type 0
IsRemark [] = ⊤
IsRemark (byte ∷ bytes) = byte ≡ number_sign

-- The content of a line: it is before the first `#`, and neither of its ends is a blank or a
-- carriage return.
pub record Counts (line text : List ℕ) : Type 0 where
  pub front : List ℕ
  pub back : List ℕ
  pub remark : List ℕ
  pub spelled : line ≡ front ++ (text ++ (back ++ remark))
  pub no_hash : AllPass (λ byte. not (is_hash byte)) text
  pub starts : prefix_len is_ending text ≡ 0
  pub ends : suffix_len is_ending text ≡ 0
  pub front_is : AllPass is_ending front
  pub back_is : AllPass is_ending back
  pub remark_is : IsRemark remark
