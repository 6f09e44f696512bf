-- Equivalences between alternatives, and for the elements of lists.
use Rattle.krl_types.proofs.Common.{[], ⊎_elim, ⊎_map, ⊎_swap, ◌++◌, ◌↔◌, ◌∷◌, ◌≡◌, ◌⊎◌, Contains}
use Rattle.krl_types.proofs.Common.{Contains-append_cases, Contains-append_left}
use Rattle.krl_types.proofs.Common.{Contains-append_right, inl, inr, List, subst}
use Rattle.krl_types.proofs.Elements.{contains_cases, contains_here, contains_later}
use Rattle.krl_types.proofs.Elements.{contains_none}
use Rattle.std.proofs.Math.Logic.Iff as Iff

pub iff_or : {A B C D : Type 0} → (A ↔ B) → (C ↔ D) → ((A ⊎ C) ↔ (B ⊎ D))
iff_or h k = (⊎_map h.0 k.0, ⊎_map h.1 k.1)

pub iff_swap : {A B : Type 0} → (A ⊎ B) ↔ (B ⊎ A)
iff_swap = (⊎_swap, ⊎_swap)

pub iff_none : {A B : Type 0} → (B → ⊥) → A ↔ (A ⊎ B)
iff_none none = (λ a. inl a, λ x. elim x [ inl a ↦ a | inr b ↦ absurd (none b) ])

-- swaps the first two of three alternatives
pub iff_front : {A B C : Type 0} → (A ⊎ (B ⊎ C)) ↔ (B ⊎ (A ⊎ C))
iff_front = (
  λ x. elim x [ inl a ↦ inr (inl a) | inr bc ↦ elim bc [ inl b ↦ inl b | inr c ↦ inr (inr c) ] ],
  λ x. elim x [ inl b ↦ inr (inl b) | inr ac ↦ elim ac [ inl a ↦ inl a | inr c ↦ inr (inr c) ] ],
)

-- pairs four alternatives in the other way
pub iff_across : {A B C D : Type 0} → ((A ⊎ B) ⊎ (C ⊎ D)) ↔ ((A ⊎ C) ⊎ (B ⊎ D))
iff_across = (λ x. across x, λ x. across x)
  where
    across : {A B C D : Type 0} → ((A ⊎ B) ⊎ (C ⊎ D)) → ((A ⊎ C) ⊎ (B ⊎ D))
    across x = elim x [ inl ab ↦ elim ab [ inl a ↦ inl (inl a) | inr b ↦ inr (inl b) ] | inr cd ↦ elim cd [ inl c ↦ inl (inr c) | inr d ↦ inr (inr d) ] ]

-- a fact that both alternatives have
pub iff_both : {P A B : Type 0} → ((P × A) ⊎ (P × B)) ↔ (P × (A ⊎ B))
iff_both = (
  λ x. elim x [ inl a ↦ (a.0, inl a.1) | inr b ↦ (b.0, inr b.1) ],
  λ x. elim x.1 [ inl a ↦ inl (x.0, a) | inr b ↦ inr (x.0, b) ],
)

-- ---- elements

pub contains_cons : {X : Type 0} (x : X) (xs : List X) (y : X) → Contains (x ∷ xs) y ↔ ((x ≡ y) ⊎ Contains xs y)
contains_cons x xs y = (
  contains_cases x y xs,
  λ h. elim h [ inl same ↦ subst (Contains (x ∷ xs)) same (contains_here x xs) | inr later ↦ contains_later x y xs later ],
)

pub contains_one : {X : Type 0} (x y : X) → Contains (x ∷ []) y ↔ (x ≡ y)
contains_one x y = Iff.trans (contains_cons x [] y) (Iff.symm (iff_none (contains_none y)))

pub contains_middle : {X : Type 0} (front : List X) (x : X) (back : List X) (y : X) → Contains (front ++ x ∷ back) y ↔ ((x ≡ y) ⊎ Contains (front ++ back) y)
contains_middle [] x back y = contains_cons x back y
contains_middle (z ∷ front) x back y =
    Iff.trans (contains_cons z (front ++ x ∷ back) y) (Iff.trans (iff_or Iff.rfl (contains_middle front x back y))
    (Iff.trans iff_front (iff_or Iff.rfl (Iff.symm (contains_cons z (front ++ back) y)))))

pub contains_append : {X : Type 0} (xs ys : List X) (y : X) → Contains (xs ++ ys) y ↔ (Contains xs y ⊎ Contains ys y)
contains_append xs ys y = (
  Contains-append_cases xs ys y,
  ⊎_elim (Contains-append_left xs ys y) (Contains-append_right xs ys y),
)
