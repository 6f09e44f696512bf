-- Elements of lists, and the names of joined lists of entries.
use Rattle.krl_types.proofs.Common.{[], ◌++◌, ◌∷◌, ◌≡◌, ◌⊎◌, AllByRecursion, arith, Contains}
use Rattle.krl_types.proofs.Common.{Entry, inl, inr, List, Name, refl}
use Rattle.krl_types.proofs.Common.{SomeNames, suc, zero}

pub contains_here : {X : Type 0} (x : X) (xs : List X) → Contains (x ∷ xs) x
contains_here x xs = (0, omega arith, refl)

pub contains_later : {X : Type 0} (x y : X) (xs : List X) → Contains xs y → Contains (x ∷ xs) y
contains_later x y xs (k, h, e) = (suc k, omega arith, e)

pub contains_cases : {X : Type 0} (x y : X) (xs : List X) → Contains (x ∷ xs) y
    → (x ≡ y) ⊎ Contains xs y
contains_cases x y xs (zero, h, e) = inl e
contains_cases x y xs (suc k, h, e) = inr (k, omega arith, e)

pub contains_none : {X : Type 0} (y : X) → Contains [] y → ⊥
contains_none y (k, h, e) = omega arith

pub all_append : {X : Type 0} (P : X → Type 0) (xs ys : List X) → AllByRecursion P xs
    → AllByRecursion P ys → AllByRecursion P (xs ++ ys)
all_append P [] ys front back = back
all_append P (x ∷ xs) ys front back = (front.0, all_append P xs ys front.1 back)

-- ---- the names of some entries

pub some_left : (xs ys : List Entry) (name : Name) → SomeNames xs name → SomeNames (xs ++ ys) name
some_left [] ys name h = absurd h
some_left (x ∷ xs) ys name h =
    elim h [ inl here ↦ inl here | inr later ↦ inr (some_left xs ys name later) ]

pub some_right : (xs ys : List Entry) (name : Name) → SomeNames ys name → SomeNames (xs ++ ys) name
some_right [] ys name h = h
some_right (x ∷ xs) ys name h = inr (some_right xs ys name h)

pub some_cases : (xs ys : List Entry) (name : Name) → SomeNames (xs ++ ys) name
    → SomeNames xs name ⊎ SomeNames ys name
some_cases [] ys name h = inr h
some_cases (x ∷ xs) ys name h =
    elim h [
      | inl here ↦ inl (inl here)
      | inr later ↦ elim (some_cases xs ys name later) [
        | inl left ↦ inl (inr left)
        | inr right ↦ inr right
      ]
    ]
