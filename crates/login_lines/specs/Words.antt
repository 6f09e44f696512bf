-- The parts of a message, from left to right.
use Rattle.std.specs.Prelude.{ℕ, Bool, not, ◌-◌, ◌==◌, ◌<◌, ◌&&◌, ◌||◌, nat_le, nat_eq}
use Rattle.std.specs.Prelude.{List, length, take, drop, codes, Option, Some, None}
use Rattle.std.specs.Prelude.{if◌then◌else◌}
use Rattle.std.specs.Borrow.{Bor}
use Rattle.std.specs.List.{AllPass, prefix_len, suffix_len, starts_with}
use Rattle.login_lines.specs.declared.words.Class.{Class}
use Rattle.login_lines.specs.declared.words.Class.TheVariants.{Word, Digit, Kind}

abbrev pub is_digit_byte : ℕ → Bool
is_digit_byte byte = nat_le 48 byte && nat_le byte 57

abbrev pub is_upper : ℕ → Bool
is_upper byte = nat_le 65 byte && nat_le byte 90

-- whether a byte is of the class: no space; a decimal digit; an upper case letter, a digit or `-`
abbrev pub passes : Class → ℕ → Bool
passes Word byte = not (byte == 32)
passes Digit byte = is_digit_byte byte
passes Kind byte = is_upper byte || is_digit_byte byte || (byte == 45)

-- one byte or more, each of the class
pub record IsWordOf (class : Class) (word : List ℕ) : Type 0 where
  pub some : 0 < length word
  pub each : AllPass (passes class) word

infixl 10 ◌>>=◌
-- continues with what was read
abbrev pub ◌>>=◌ : {A B : Type 0} → Option A → (A → Option B) → Option B
None >>= f = None
(Some x) >>= f = f x

abbrev pub parts : Bor (List ℕ) × Bor (List ℕ) → List ℕ × List ℕ
parts p = (p.0.now, p.1.now)

-- the text after its front
unfoldable pub after : List ℕ → List ℕ → Option (List ℕ)
after front text = if starts_with nat_eq text front then Some (drop (length front) text) else None

-- the first bytes, and the text after the separator that follows them
unfoldable pub split_at : ℕ → List ℕ → List ℕ → Option (List ℕ × List ℕ)
split_at size separator text =
    after separator (drop size text) >>= λ rest. Some (take size text, rest)

abbrev pub span_len : Class → List ℕ → ℕ
span_len class text = prefix_len (passes class) text

-- the first bytes of the class, at least one, and the text after the separator that follows them
unfoldable pub span_at : Class → List ℕ → List ℕ → Option (List ℕ × List ℕ)
span_at class separator text =
    if span_len class text == 0 then None else split_at (span_len class text) separator text

abbrev pub is_no_parenthesis : ℕ → Bool
is_no_parenthesis byte = not (byte == 40)

-- the position of the byte before the last `(`
abbrev pub group_start : List ℕ → ℕ
group_start text = length text - suffix_len is_no_parenthesis text - 2

-- the text before the last ` (serial `, and the text after it
unfoldable pub group_at : List ℕ → Option (List ℕ × List ℕ)
group_at text = split_at (group_start text) (codes " (serial ") text
