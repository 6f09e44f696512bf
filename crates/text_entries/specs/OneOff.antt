-- Spellings that differ in one slip of the hand.
use Rattle.std.specs.Prelude.{◌≡◌, ◌≢◌, ℕ, ◌≤◌, ◌==◌, ◌||◌, ◌&&◌, ◌⊎◌, Bool, false, if◌then◌else◌}
use Rattle.std.specs.Prelude.{List, [], ◌∷◌, ◌++◌, length}
use Rattle.std.specs.Str.{bytes_eq}

-- at most one letter of each
abbrev pub IsLetter : (x y : List ℕ) → Type 0
IsLetter x y = (length x ≤ 1) × (length y ≤ 1)

-- two letters that are exchanged
abbrev pub AreExchanged : (x y : List ℕ) → Type 0
AreExchanged x y = (a b : ℕ) × (x ≡ a ∷ b ∷ []) × (y ≡ b ∷ a ∷ [])

-- They are not the same, and one of them has at most one letter where the other has at most one, or
-- two neighbouring letters where the other has the same two exchanged.
pub record IsOneOff (left right : List ℕ) : Type 0 where
  pub front : List ℕ
  pub x : List ℕ
  pub y : List ℕ
  pub back : List ℕ
  pub left_is : left ≡ front ++ (x ++ back)
  pub right_is : right ≡ front ++ (y ++ back)
  pub slip : IsLetter x y ⊎ AreExchanged x y
  pub differ : left ≢ right

-- A letter of each and the next one are exchanged in the other, and the rest is the same.
abbrev pub is_exchanged : (x y : ℕ) (left right : List ℕ) → Bool
is_exchanged x y (a ∷ left) (b ∷ right) = a == y && (b == x && bytes_eq left right)
is_exchanged x y left right = false

-- The same as a test: behind the letters that both begin with, a letter is left out of one, of the
-- other or of both, or two are exchanged.
abbrev pub is_one_off : List ℕ → List ℕ → Bool
is_one_off [] right = length right == 1
is_one_off (x ∷ left) [] = length left == 0
is_one_off (x ∷ left) (y ∷ right) =
    if x == y then is_one_off left right
    else bytes_eq left right || (is_exchanged x y left right
    || (bytes_eq (x ∷ left) right || bytes_eq left (y ∷ right)))
