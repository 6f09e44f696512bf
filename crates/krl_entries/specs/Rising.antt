-- Lists in ascending order of a byte string of each element.
use Rattle.std.specs.Prelude.{◌≡◌, ℕ, List, [], ◌∷◌, ⊤}
use Rattle.std.specs.List.{AllByRecursion}
use Rattle.std.specs.declared.cmp.Ordering.{Ordering}
use Rattle.std.specs.declared.cmp.Ordering.TheVariants.{Less}
use Rattle.std.specs.Ordering.{nat_cmp}
use Rattle.std.specs.Cmp.Lexicographic.{slice_cmp}

-- the order of two byte strings: by the first byte that differs; a prefix comes before the whole
abbrev pub bytes_cmp : List ℕ → List ℕ → Ordering
bytes_cmp = slice_cmp nat_cmp

module _ {X : Type 0} (key : X → List ℕ) where
  -- the bytes of each element come before these
  abbrev pub AllBelow : List ℕ → List X → Type 0
  AllBelow bytes xs = AllByRecursion (λ x. bytes_cmp (key x) bytes ≡ Less) xs

  -- the bytes of each element come after these
  abbrev pub AllAbove : List ℕ → List X → Type 0
  AllAbove bytes xs = AllByRecursion (λ x. bytes_cmp bytes (key x) ≡ Less) xs

  -- the bytes of each element come before those of each later one
  abbrev pub RisesBy : List X → Type 0
  RisesBy [] = ⊤
  RisesBy (x ∷ xs) = AllAbove (key x) xs × RisesBy xs

-- byte strings in order, each once
abbrev pub Rises : List (List ℕ) → Type 0
Rises = RisesBy (λ bytes. bytes)
