-- Properties of some section after an addition, and how much is held and in what order.
use Rattle.krl_entries.proofs.Common.{[], ◌++◌, ◌+◌, ◌↔◌, ◌∷◌, ◌≡◌, ◌≤◌, ◌⊎◌, Addition, AddsTo, ap}
use Rattle.krl_entries.proofs.Common.{arith, Contains, Covers, empty_section, IdOf, inl, inr, List}
use Rattle.krl_entries.proofs.Common.{Name, refl, Section, SerialOf, SomeSection, subst, sum_by}
use Rattle.krl_entries.proofs.Common.{sum_by-append, sum_by-cons, sym, TakesAddition, ℕ}
use Rattle.krl_types.proofs.Equivalences.{iff_across, iff_front, iff_none, iff_or, iff_swap}
use Rattle.std.proofs.Math.Logic.Iff as Iff

-- ---- some section

-- the section holds a serial number or a key ID under exactly its authority
abbrev pub HeldIn : Name → Section → Type 0
HeldIn (SerialOf a s) section = (section.authority ≡ a) × Covers section.spans s
HeldIn (IdOf a text) section = (section.authority ≡ a) × Contains section.ids text
HeldIn _ section = ⊥

pub no_section : (sections : List Section) → SomeSection (λ section. ⊥) sections → ⊥
no_section [] h = h
no_section (x ∷ sections) h = elim h [ inl here ↦ here | inr later ↦ no_section sections later ]

pub some_middle : (P : Section → Type 0) (front : List Section) (section : Section) (back : List Section) → SomeSection P (front ++ section ∷ back) ↔ (P section ⊎ SomeSection P (front ++ back))
some_middle P [] section back = Iff.rfl
some_middle P (x ∷ front) section back = Iff.trans (iff_or Iff.rfl (some_middle P front section back)) iff_front

-- After the addition a section of the authority has the property P exactly if it had P or Q is
-- true. An empty section does not have P.
pub record AddsProperty (addition : Addition) (authority : List ℕ) (P : Section → Type 0) (Q : Type 0) : Type 0 where
  pub one : (from to : Section) → from.authority ≡ authority → TakesAddition addition from to → P to ↔ (P from ⊎ Q)
  pub none : P (empty_section authority) → ⊥

some_changed : (P : Section → Type 0) (Q : Type 0) (front back new : List Section) (from to : Section) → new ≡ front ++ to ∷ back → P to ↔ (P from ⊎ Q) → SomeSection P new ↔ ((P from ⊎ SomeSection P (front ++ back)) ⊎ Q)
some_changed P Q front back new from to is one =
    let now = subst (λ (l : List Section). SomeSection P l ↔ (P to ⊎ SomeSection P (front ++ back))) (sym is) (some_middle P front to back) in
    Iff.trans now (Iff.trans (iff_or one (iff_none (λ no. no))) (Iff.trans iff_across (iff_or Iff.rfl (Iff.symm (iff_none (λ no. no))))))

pub some_adds : (addition : Addition) (authority : List ℕ) (old new : List Section) (P : Section → Type 0) (Q : Type 0) → AddsProperty addition authority P Q → AddsTo addition authority old new → SomeSection P new ↔ (SomeSection P old ⊎ Q)
some_adds addition authority old new P Q step (inl c) =
    let was = subst (λ (l : List Section). (P c.from ⊎ SomeSection P (c.front ++ c.back)) ↔ SomeSection P l) (sym c.before) (Iff.symm (some_middle P c.front c.from c.back)) in
    Iff.trans (some_changed P Q c.front c.back new c.from c.to c.after (step.one c.from c.to c.under c.changed)) (iff_or was Iff.rfl)
some_adds addition authority old new P Q step (inr n) =
    let was = subst (λ (l : List Section). SomeSection P (n.put.front ++ n.put.back) ↔ SomeSection P l) (sym n.put.before) Iff.rfl in
    Iff.trans (some_changed P Q n.put.front n.put.back new (empty_section authority) n.section n.put.after (step.one (empty_section authority) n.section refl n.takes))
    (iff_or (Iff.trans iff_swap (Iff.trans (Iff.symm (iff_none step.none)) was)) Iff.rfl)

-- ---- how much

pub sum_middle : (f : Section → ℕ) (front : List Section) (section : Section) (back : List Section) → sum_by f (front ++ section ∷ back) ≡ f section + sum_by f (front ++ back)
sum_middle f front section back =
    omega (arith, sum_by-append f front (section ∷ back), sum_by-cons f section back, sum_by-append f front back)

-- an addition that increases a number of each section by at most `more` increases the sum by at
-- most `more` and the number of an empty section
pub sum_adds : (addition : Addition) (authority : List ℕ) (old new : List Section) (f : Section → ℕ) (more : ℕ) → ((from to : Section) → TakesAddition addition from to → f to ≤ f from + more) → AddsTo addition authority old new → sum_by f new ≤ sum_by f old + f (empty_section authority) + more
sum_adds addition authority old new f more step adds =
    elim adds [
      | inl c ↦ omega (arith, ap (sum_by f) c.before, ap (sum_by f) c.after, sum_middle f c.front c.from c.back, sum_middle f c.front c.to c.back, step c.from c.to c.changed)
      | inr n ↦ omega (arith, ap (sum_by f) n.put.before, ap (sum_by f) n.put.after, sum_middle f n.put.front n.section n.put.back, step (empty_section authority) n.section n.takes)
    ]
