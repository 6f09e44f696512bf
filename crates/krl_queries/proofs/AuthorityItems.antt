-- The contents of all sections as one list: each item with its authority.
use Rattle.krl_queries.proofs.Common.{[], ⊎_map, ◌+◌, ◌↔◌, ◌∷◌, ◌≡◌, All, All-head, All-tail, ap}
use Rattle.krl_queries.proofs.Common.{ap₂, arith, Contains, flat_map, IsOrderlySection, List, map, refl}
use Rattle.krl_queries.proofs.Common.{RisesBy, Section, SomeSection, sum_by, sum_by-append}
use Rattle.krl_queries.proofs.Common.{sum_by-cons, ℕ}
use Rattle.std.proofs.lemmas.List.Folds.{fold-map}
use Rattle.krl_types.proofs.Equivalences.{contains_append, contains_cons, iff_both, iff_or}
use Rattle.krl_queries.proofs.DistinctLists.{Once, once_append}
use Rattle.krl_entries.proofs.OneMeaning.{above_held, section_authority}
use Rattle.krl_entries.proofs.RisingLists.{less_apart}
use Rattle.krl_types.proofs.Elements.{contains_none}
use Rattle.std.proofs.Math.Logic.Iff as Iff

module _ {Y : Type 0} where
  abbrev under_one : (a : List ℕ) → List Y → List (List ℕ × Y)
  under_one a ys = map (λ y. (a, y)) ys

  in_one : (a b : List ℕ) (ys : List Y) (z : Y) → Contains (under_one a ys) (b, z) ↔ ((a ≡ b) × Contains ys z)
  in_one a b [] z = (λ h. absurd (contains_none (b, z) h), λ h. absurd (contains_none z h.1))
  in_one a b (y ∷ ys) z =
      let same : ((a, y) ≡ (b, z)) ↔ ((a ≡ b) × (y ≡ z)) = (λ e. (ap (λ p. p.0) e, ap (λ p. p.1) e), λ e. ap₂ (λ c x. (c, x)) e.0 e.1) in
      Iff.trans (contains_cons (a, y) (under_one a ys) (b, z)) (Iff.trans (iff_or same (in_one a b ys z)) (Iff.trans iff_both (Iff.and Iff.rfl (Iff.symm (contains_cons y ys z)))))

  once_one : (a : List ℕ) (ys : List Y) → Once ys → Once (under_one a ys)
  once_one a [] once = tt
  once_one a (y ∷ ys) once = (λ h. once.0 ((in_one a a ys y).0 h).1, once_one a ys once.1)

module _ {Y : Type 0} (items : Section → List Y) where
  abbrev pub under : List Section → List (List ℕ × Y)
  under sections = flat_map (λ section. under_one section.authority (items section)) sections

  pub in_under : (sections : List Section) (a : List ℕ) (y : Y) → Contains (under sections) (a, y) ↔ SomeSection (λ section. (section.authority ≡ a) × Contains (items section) y) sections
  in_under [] a y = (λ h. absurd (contains_none (a, y) h), λ h. absurd h)
  in_under (x ∷ xs) a y = Iff.trans (contains_append (under_one x.authority (items x)) (under xs) (a, y)) (iff_or (in_one x.authority a (items x) y) (in_under xs a y))

  pub once_under : (sections : List Section) → RisesBy section_authority sections → All (λ section. Once (items section)) sections → Once (under sections)
  once_under [] rises once = tt
  once_under (x ∷ xs) rises once =
      once_append (under_one x.authority (items x)) (under xs) (once_one x.authority (items x) (All-head (λ section. Once (items section)) x xs once))
      (once_under xs rises.1 (All-tail (λ section. Once (items section)) x xs once))
      (λ p here later. less_apart x.authority p.0 (above_held (λ section. Contains (items section) p.1) x.authority p.0 xs rises.0 ((in_under xs p.0 p.1).0 later)) ((in_one x.authority p.0 (items x) p.1).0 here).0)

  -- the sum over this list is a sum over the sections
  pub sum_under : (weight : Y → ℕ) (size : Section → ℕ) → ((section : Section) → sum_by weight (items section) ≡ size section) → (sections : List Section) → sum_by (λ p. weight p.1) (under sections) ≡ sum_by size sections
  sum_under weight size is [] = refl
  sum_under weight size is (x ∷ xs) =
      omega (arith, sum_by-append (λ p. weight p.1) (under_one x.authority (items x)) (under xs), fold-map (λ (n : ℕ) (p : List ℕ × Y). n + weight p.1) (λ y. (x.authority, y)) 0 (items x), is x, sum_under weight size is xs, sum_by-cons size x xs)

-- a property of some listed section that implies another
pub some_listed : {P Q : Section → Type 0} → ((section : Section) → IsOrderlySection section → P section → Q section) → (sections : List Section) → All IsOrderlySection sections → SomeSection P sections → SomeSection Q sections
some_listed to [] listed h = absurd h
some_listed to (x ∷ xs) listed h = ⊎_map (to x (All-head IsOrderlySection x xs listed)) (some_listed to xs (All-tail IsOrderlySection x xs listed)) h
