-- The place of a value in a list, and the insertion of a value.
use Rattle.std.specs.Prelude.{◌≡◌, ℕ, List, ◌∷◌, ◌++◌}
use Rattle.krl_entries.specs.Rising.{AllBelow, AllAbove}

-- the new list is the old one with the value inserted at its place
pub record Inserts {X : Type 0} (key : X → List ℕ) (old : List X) (value : X) (new : List X)
    : Type 0 where
  pub front : List X
  pub back : List X
  pub before : old ≡ front ++ back
  pub after : new ≡ front ++ value ∷ back
  pub below : AllBelow key (key value) front
  pub above : AllAbove key (key value) back

-- the value is in the list, after those with lower bytes and before those with higher bytes
pub record Stands {X : Type 0} (key : X → List ℕ) (xs : List X) (x : X) : Type 0 where
  pub front : List X
  pub back : List X
  pub parts : xs ≡ front ++ x ∷ back
  pub below : AllBelow key (key x) front
  pub above : AllAbove key (key x) back
