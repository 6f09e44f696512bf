-- The fronts of serial numbers: what is left when last bits are cut off.
use Rattle.std.specs.Prelude.{◌≡◌, ℕ, zero, suc, ◌/◌, ◌≤◌, ◌==◌, List, [], ◌∷◌, if◌then◌else◌}

-- a number without its last bits
unfoldable pub front : (bits : ℕ) → ℕ → ℕ
front zero n = n
front (suc bits) n = front bits (n / 2)

-- a number, and what is left as up to this many bits are cut off one after another, down to 0
unfoldable pub fronts : (bits : ℕ) → ℕ → List ℕ
fronts zero n = n ∷ []
fronts (suc bits) n = n ∷ (if n == 0 then [] else fronts bits (n / 2))

-- Two numbers have the front.
pub record IsCommonFront (first last common : ℕ) : Type 0 where
  pub bits : ℕ
  pub few : bits ≤ 64
  pub of_first : common ≡ front bits first
  pub of_last : common ≡ front bits last
