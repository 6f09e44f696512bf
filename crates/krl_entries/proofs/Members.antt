-- The elements of rising lists.
use Rattle.krl_entries.proofs.Common.{[], ⊎_elim, ◌++◌, ◌∷◌, AllAbove, AllBelow, Contains}
use Rattle.krl_entries.proofs.Common.{Contains-append_cases, List, map, map-append, subst, sym, ℕ}
use Rattle.krl_entries.proofs.RisingLists.{less_apart}
use Rattle.krl_types.proofs.Elements.{contains_cases, contains_none}

module _ {X : Type 0} (key : X → List ℕ) where
  pub absent_below : (bytes : List ℕ) (xs : List X) → AllBelow key bytes xs → Contains (map key xs) bytes → ⊥
  absent_below bytes [] b m = contains_none bytes m
  absent_below bytes (x ∷ xs) b m =
      ⊎_elim (less_apart (key x) bytes b.0) (absent_below bytes xs b.1) (contains_cases (key x) bytes (map key xs) m)

  pub absent_above : (bytes : List ℕ) (xs : List X) → AllAbove key bytes xs → Contains (map key xs) bytes → ⊥
  absent_above bytes [] b m = contains_none bytes m
  absent_above bytes (x ∷ xs) b m =
      ⊎_elim (λ here. less_apart bytes (key x) b.0 (sym here)) (absent_above bytes xs b.1) (contains_cases (key x) bytes (map key xs) m)

  pub absent_parts : (bytes : List ℕ) (xs ys : List X) → AllBelow key bytes xs → AllAbove key bytes ys → Contains (map key (xs ++ ys)) bytes → ⊥
  absent_parts bytes xs ys b a m =
      ⊎_elim (absent_below bytes xs b) (absent_above bytes ys a)
      (Contains-append_cases (map key xs) (map key ys) bytes (subst (λ l. Contains l bytes) (map-append key xs ys) m))
