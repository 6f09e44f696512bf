-- How many intervals a difference holds.
use Rattle.list_diff.proofs.Common.{[], ◌+◌, ◌∙◌, ◌∷◌, ◌≡◌, ◌≤◌, ◌↔◌, All, AllAbove, arith, Covers}
use Rattle.list_diff.proofs.Common.{HoldsSerial, HoldsWithout, inl, inr, IsOrderly, IsRuns, length, List}
use Rattle.list_diff.proofs.Common.{Revocations, Section, SerialOf, Span, subst, sym, ℕ, refl}
use Rattle.list_diff.proofs.Remainders.{few_lost}
use Rattle.krl_entries.proofs.OneMeaning.{held_first, section_authority}
use Rattle.krl_entries.proofs.RisingLists.{less_apart}
use Rattle.krl_entries.specs.Revocations.{held, IsOrderlySection}
use Rattle.krl_entries.specs.Rising.{RisesBy}
use Rattle.std.proofs.Common.{Bool, bytes_eq, false, sum_by, true}
use Rattle.std.proofs.lemmas.Bool.{false≢true}
use Rattle.std.proofs.lemmas.List.Elements.{All-cons, All-head, All-nil, All-tail}
use Rattle.std.proofs.lemmas.List.Sums.{sum_by-cons}
use Rattle.std.proofs.lemmas.Slice.Eq.{bytes_eq-Decides}

-- ---- the spans of an authority

abbrev chosen : {X : Type 0} → Bool → X → X → X
chosen true x y = x
chosen false x y = y

abbrev spans_at : List ℕ → List Section → List Span
spans_at a [] = []
spans_at a (x ∷ xs) = chosen (bytes_eq x.authority a) x.spans (spans_at a xs)

-- two byte strings are equal or not, and the test says so
data Tells (a b : List ℕ) (test : Bool) : Type 0 where
  equal : a ≡ b → test ≡ true → Tells a b test
  other : (a ≡ b → ⊥) → test ≡ false → Tells a b test

tells : (a b : List ℕ) → Tells a b (bytes_eq a b)
tells a b = by_test (bytes_eq a b) refl
  where
    by_test : (t : Bool) → bytes_eq a b ≡ t → Tells a b (bytes_eq a b)
    by_test true e = equal ((bytes_eq-Decides a b).0 e) e
    by_test false e = other (λ same. false≢true (sym e ∙ (bytes_eq-Decides a b).1 same)) e

covered_at : (a : List ℕ) (xs : List Section) (s : ℕ) → RisesBy section_authority xs → HoldsSerial xs a s ↔ Covers (spans_at a xs) s
covered_at a [] s rises = (λ h. h, λ h. h)
covered_at a (x ∷ xs) s rises =
    let P : Bool → Type 0 = λ t. HoldsSerial (x ∷ xs) a s ↔ Covers (chosen t x.spans (spans_at a xs)) s in
    elim (tells x.authority a) [
      | equal same e ↦ subst P (sym e) (held_first (λ section. Covers section.spans s) a x xs same rises.0)
      | other apart e ↦ subst P (sym e) (
        λ h. elim h [ inl here ↦ absurd (apart here.0) | inr later ↦ (covered_at a xs s rises.1).0 later ],
        λ h. inr ((covered_at a xs s rises.1).1 h),
      )
    ]

runs_at : (a : List ℕ) (xs : List Section) → All IsOrderlySection xs → IsRuns (spans_at a xs)
runs_at a [] listed = tt
runs_at a (x ∷ xs) listed =
    let P : Bool → Type 0 = λ t. IsRuns (chosen t x.spans (spans_at a xs)) in
    elim (tells x.authority a) [
      | equal same e ↦ subst P (sym e) (All-head IsOrderlySection x xs listed).runs
      | other apart e ↦ subst P (sym e) (runs_at a xs (All-tail IsOrderlySection x xs listed))
    ]

-- ---- sums over sections

abbrev count : Section → ℕ
count section = length section.spans

abbrev count_at : List Section → Section → ℕ
count_at xs section = length (spans_at section.authority xs)

-- the spans of a section, where an authority is its
abbrev count_if : Section → Section → ℕ
count_if x section = chosen (bytes_eq x.authority section.authority) (count x) 0

none_above : (x : Section) (gone : List Section) → AllAbove section_authority x.authority gone → sum_by (count_if x) gone ≤ 0
none_above x [] above = omega arith
none_above x (g ∷ gone) above =
    let P : Bool → Type 0 = λ t. chosen t (count x) 0 ≤ 0 in
    let first : count_if x g ≤ 0 = elim (tells x.authority g.authority) [
      | equal same e ↦ absurd (less_apart x.authority g.authority above.0 same)
      | other apart e ↦ subst P (sym e) (omega arith)
    ] in
    omega (arith, sum_by-cons (count_if x) g gone, first, none_above x gone above.1)

-- an authority is that of at most one section
once : (x : Section) (gone : List Section) → RisesBy section_authority gone → sum_by (count_if x) gone ≤ count x
once x [] rises = omega arith
once x (g ∷ gone) rises =
    let P : Bool → Type 0 = λ t. chosen t (count x) 0 + sum_by (count_if x) gone ≤ count x in
    let both : count_if x g + sum_by (count_if x) gone ≤ count x = elim (tells x.authority g.authority) [
      | equal same e ↦
          let above = subst (λ (a : List ℕ). AllAbove section_authority a gone) (sym same) rises.0 in
          subst P (sym e) (omega (arith, none_above x gone above))
      | other apart e ↦ subst P (sym e) (omega (arith, once x gone rises.1))
    ] in
    omega (arith, sum_by-cons (count_if x) g gone, both)

count_first : (x : Section) (xs : List Section) (g : Section) → count_at (x ∷ xs) g ≤ count_if x g + count_at xs g
count_first x xs g =
    let P : Bool → Type 0 = λ t. length (chosen t x.spans (spans_at g.authority xs)) ≤ chosen t (count x) 0 + count_at xs g in
    elim (tells x.authority g.authority) [
      | equal same e ↦ subst P (sym e) (omega arith)
      | other apart e ↦ subst P (sym e) (omega arith)
    ]

sum_first : (x : Section) (xs gone : List Section) → sum_by (count_at (x ∷ xs)) gone ≤ sum_by (count_if x) gone + sum_by (count_at xs) gone
sum_first x xs [] = omega arith
sum_first x xs (g ∷ gone) =
    omega (
      arith,
      sum_by-cons (count_at (x ∷ xs)) g gone,
      sum_by-cons (count_if x) g gone,
      sum_by-cons (count_at xs) g gone,
      count_first x xs g,
      sum_first x xs gone,
    )

sum_none : (gone : List Section) → sum_by (count_at []) gone ≤ 0
sum_none [] = omega arith
sum_none (g ∷ gone) = omega (arith, sum_by-cons (count_at []) g gone, sum_none gone)

-- all spans of these authorities are among those of all sections
sum_at : (xs gone : List Section) → RisesBy section_authority gone → sum_by (count_at xs) gone ≤ sum_by count xs
sum_at [] gone rises = omega (arith, sum_none gone)
sum_at (x ∷ xs) gone rises =
    omega (arith, sum_by-cons count x xs, sum_first x xs gone, once x gone rises, sum_at xs gone rises)

sum_both : (gone xs others : List Section) → All (λ g. count g ≤ count_at xs g + count_at others g) gone
    → sum_by count gone ≤ sum_by (count_at xs) gone + sum_by (count_at others) gone
sum_both [] xs others each = omega arith
sum_both (g ∷ gone) xs others each =
    omega (
      arith,
      sum_by-cons count g gone,
      sum_by-cons (count_at xs) g gone,
      sum_by-cons (count_at others) g gone,
      All-head (λ g. count g ≤ count_at xs g + count_at others g) g gone each,
      sum_both gone xs others (All-tail (λ g. count g ≤ count_at xs g + count_at others g) g gone each),
    )

-- ---- the spans of a section are those of its authority

own_later : (x : Section) (xs ys : List Section) → AllAbove section_authority x.authority ys → All (λ g. spans_at g.authority xs ≡ g.spans) ys
    → All (λ g. spans_at g.authority (x ∷ xs) ≡ g.spans) ys
own_later x xs [] above own = All-nil (λ g. spans_at g.authority (x ∷ xs) ≡ g.spans)
own_later x xs (y ∷ ys) above own =
    let P : Bool → Type 0 = λ t. chosen t x.spans (spans_at y.authority xs) ≡ y.spans in
    let first : spans_at y.authority (x ∷ xs) ≡ y.spans = elim (tells x.authority y.authority) [
      | equal same e ↦ absurd (less_apart x.authority y.authority above.0 same)
      | other apart e ↦ subst P (sym e) (All-head (λ g. spans_at g.authority xs ≡ g.spans) y ys own)
    ] in
    All-cons (λ g. spans_at g.authority (x ∷ xs) ≡ g.spans) y ys first (own_later x xs ys above.1 (All-tail (λ g. spans_at g.authority xs ≡ g.spans) y ys own))

own_spans : (xs : List Section) → RisesBy section_authority xs → All (λ g. spans_at g.authority xs ≡ g.spans) xs
own_spans [] rises = All-nil (λ g. spans_at g.authority [] ≡ g.spans)
own_spans (x ∷ xs) rises =
    let P : Bool → Type 0 = λ t. chosen t x.spans (spans_at x.authority xs) ≡ x.spans in
    let first : spans_at x.authority (x ∷ xs) ≡ x.spans = elim (tells x.authority x.authority) [
      | equal same e ↦ subst P (sym e) refl
      | other apart e ↦ absurd (apart refl)
    ] in
    All-cons (λ g. spans_at g.authority (x ∷ xs) ≡ g.spans) x xs first (own_later x xs xs rises.0 (own_spans xs rises.1))

-- ---- what is held

section_few : (old new gone : Revocations) → IsOrderly old → IsOrderly new → HoldsWithout old new gone → (g : Section) → IsOrderlySection g → spans_at g.authority gone.sections ≡ g.spans
    → count g ≤ count_at new.sections g + count_at old.sections g
section_few old new gone o n is g listed own =
    let a = g.authority in
    few_lost g.spans (spans_at a new.sections) (spans_at a old.sections) listed.runs (runs_at a new.sections n.listed) (runs_at a old.sections o.listed) (λ s.
    let here = subst (λ (l : List Span). HoldsSerial gone.sections a s ↔ Covers l s) own (covered_at a gone.sections s is.orderly.authorities_rise) in
    let there = covered_at a new.sections s n.authorities_rise in
    let before = covered_at a old.sections s o.authorities_rise in
    let names = is.names (SerialOf a s) in (
      λ h. let held = names.0 (here.1 h) in (there.0 held.0, λ also. held.1 (before.1 also)),
      λ h. here.0 (names.1 (there.1 h.0, λ also. h.1 (before.0 also))),
    ))

each_few : (old new gone : Revocations) → IsOrderly old → IsOrderly new → HoldsWithout old new gone → (sections : List Section) → All IsOrderlySection sections → All (λ g. spans_at g.authority gone.sections ≡ g.spans) sections
    → All (λ g. count g ≤ count_at new.sections g + count_at old.sections g) sections
each_few old new gone o n is [] listed own = All-nil (λ g. count g ≤ count_at new.sections g + count_at old.sections g)
each_few old new gone o n is (g ∷ rest) listed own =
    All-cons (λ g. count g ≤ count_at new.sections g + count_at old.sections g) g rest
    (section_few old new gone o n is g (All-head IsOrderlySection g rest listed) (All-head (λ g. spans_at g.authority gone.sections ≡ g.spans) g rest own))
    (each_few old new gone o n is rest (All-tail IsOrderlySection g rest listed) (All-tail (λ g. spans_at g.authority gone.sections ≡ g.spans) g rest own))

-- as many spans as the new revocations hold, and one more for each that the old ones hold
pub few_held : (old new gone : Revocations) → IsOrderly old → IsOrderly new → HoldsWithout old new gone → held gone ≤ held new + held old
few_held old new gone o n is =
    omega (
      arith,
      sum_both gone.sections new.sections old.sections (each_few old new gone o n is gone.sections is.orderly.listed (own_spans gone.sections is.orderly.authorities_rise)),
      sum_at new.sections gone.sections is.orderly.authorities_rise,
      sum_at old.sections gone.sections is.orderly.authorities_rise,
    )
