-- How numbers, strings and multiple precision integers are spelled (RFC 4251 section 5).
use Rattle.std.specs.Prelude.{◌≡◌, ℕ, ◌<◌, ◌≤◌, ◌^◌, nat_lt, if◌then◌else◌, List, [], ◌∷◌, ◌++◌}
use Rattle.std.specs.Prelude.{length, slice_index}
use Rattle.std.specs.List.{flat_map}
use Rattle.byteorder.specs.Endian.{big_bytes, big_number}

-- each item is a byte
abbrev pub IsBytes : List ℕ → Type 0
IsBytes bytes = (i : ℕ) → slice_index bytes i < 256

-- the k bytes whose big-endian number is n
unfoldable pub number : ℕ → ℕ → List ℕ
number k n = big_bytes k n

-- the big-endian number of the bytes
unfoldable pub number_of : List ℕ → ℕ
number_of bytes = big_number (length bytes) bytes

-- four bytes of length, followed by the bytes
unfoldable pub string : List ℕ → List ℕ
string bytes = number 4 (length bytes) ++ bytes

-- The bytes begin with the string of a value.
pub record BeginsWith (bytes value : List ℕ) : Type 0 where
  pub rest : List ℕ
  pub spelled : bytes ≡ string value ++ rest
  pub fits : length value < 2 ^ 32

-- strings, one after another
abbrev pub strings : List (List ℕ) → List ℕ
strings list = flat_map string list

-- no leading zero byte
abbrev pub IsMagnitude : List ℕ → Type 0
IsMagnitude [] = Unit {0}
IsMagnitude (byte ∷ bytes) = 0 < byte

-- A magnitude as two's complement, with a leading zero byte if the top bit is set.
unfoldable pub complement : List ℕ → List ℕ
complement [] = []
complement (byte ∷ bytes) = if nat_lt byte 128 then byte ∷ bytes else 0 ∷ byte ∷ bytes

-- a number that is not negative, spelled by its magnitude
unfoldable pub mpint : List ℕ → List ℕ
mpint magnitude = string (complement magnitude)

-- Two's complement of a number that is not negative, without a byte that could be omitted.
abbrev pub IsShortest : List ℕ → Type 0
IsShortest [] = Unit {0}
IsShortest (byte ∷ []) = (0 < byte) × (byte < 128)
IsShortest (byte ∷ next ∷ bytes) = (byte < 128) × (byte ≡ 0 → 128 ≤ next)

-- The text is the one spelling of the number n.
pub record IsMpint (text : List ℕ) (n : ℕ) : Type 0 where
  pub bytes : List ℕ
  pub spelled : text ≡ string bytes
  pub fits : length bytes < 2 ^ 32
  pub shortest : IsShortest bytes
  pub value : n ≡ number_of bytes
