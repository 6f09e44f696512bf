-- Lists in which each element occurs once. A sum over such a list is at most the sum over any list
-- with all its elements.
use Rattle.krl_queries.proofs.Common.{[], ⊎_elim, ◌++◌, ◌∷◌, ◌≡◌, ◌≤◌, ap, arith, Contains}
use Rattle.krl_queries.proofs.Common.{Contains-append_cases, inl, inr, length, List, map, map-id}
use Rattle.krl_queries.proofs.Common.{refl, Rises, RisesBy, subst, sum_by, sum_by-append}
use Rattle.krl_queries.proofs.Common.{sum_by-cons, sym, ℕ}
use Rattle.std.specs.Prelude.{⊤}
use Rattle.krl_types.proofs.Equivalences.{contains_middle}
use Rattle.krl_entries.proofs.Members.{absent_above}
use Rattle.krl_types.proofs.Elements.{contains_cases, contains_here, contains_later}
use Rattle.krl_types.proofs.Elements.{contains_none}

-- each element occurs once
abbrev pub Once : {X : Type 0} → List X → Type 0
Once [] = ⊤
Once (x ∷ xs) = (Contains xs x → ⊥) × Once xs

pub once_append : {X : Type 0} (xs ys : List X) → Once xs → Once ys → ((x : X) → Contains xs x → Contains ys x → ⊥) → Once (xs ++ ys)
once_append [] ys once other apart = other
once_append (x ∷ xs) ys once other apart = (
  λ h. ⊎_elim once.0 (apart x (contains_here x xs)) (Contains-append_cases xs ys x h),
  once_append xs ys once.1 other (λ z h. apart z (contains_later x z xs h)),
)

-- ---- rising lists

pub once_rising : {X : Type 0} (key : X → List ℕ) (xs : List X) → RisesBy key xs → Once (map key xs)
once_rising key [] rises = tt
once_rising key (x ∷ xs) rises = (absent_above key (key x) xs rises.0, once_rising key xs rises.1)

pub once_texts : (texts : List (List ℕ)) → Rises texts → Once texts
once_texts texts rises = subst Once (map-id texts) (once_rising (λ bytes. bytes) texts rises)

-- ---- sums

record Parts {X : Type 0} (xs : List X) (x : X) : Type 0 where
  front : List X
  back : List X
  parts : xs ≡ front ++ x ∷ back

parts_at : {X : Type 0} (xs : List X) (x : X) → Contains xs x → Parts xs x
parts_at [] x h = absurd (contains_none x h)
parts_at (y ∷ xs) x h =
    elim (contains_cases y x xs h) [
      | inl here ↦ record { front = []; back = xs; parts = ap (λ z. z ∷ xs) here }
      | inr later ↦ (let p = parts_at xs x later in record { front = y ∷ p.front; back = p.back; parts = ap (λ l. y ∷ l) p.parts })
    ]

pub sum_within : {X : Type 0} (weight : X → ℕ) (xs ys : List X) → Once xs → ((x : X) → Contains xs x → Contains ys x) → sum_by weight xs ≤ sum_by weight ys
sum_within weight [] ys once within = omega arith
sum_within weight (x ∷ xs) ys once within =
    let p = parts_at ys x (within x (contains_here x xs)) in
    let rest = sum_within weight xs (p.front ++ p.back) once.1
    (λ z h. ⊎_elim (λ same. absurd (once.0 (subst (Contains xs) (sym same) h))) (λ other. other)
    ((contains_middle p.front x p.back z).0 (subst (λ l. Contains l z) p.parts (within z (contains_later x z xs h))))) in
    omega (arith, rest, ap (sum_by weight) p.parts, sum_by-cons weight x xs, sum_by-cons weight x p.back, sum_by-append weight p.front (x ∷ p.back), sum_by-append weight p.front p.back)

-- the length of a list, as a sum
pub sum_ones : {X : Type 0} (xs : List X) → sum_by (λ x. 1) xs ≡ length xs
sum_ones [] = refl
sum_ones (x ∷ xs) = omega (arith, sum_by-cons (λ x. 1) x xs, sum_ones xs)
