-- How much an addition increases what is held and what is stored.
use Rattle.krl_entries.proofs.Common.{[], ⊎_map, ◌++◌, ◌+◌, ◌∙◌, ◌∷◌, ◌≡◌, ◌≤◌, Addition, AddsTo}
use Rattle.krl_entries.proofs.Common.{ap, arith, bytes_in, Contains, empty_section, HoldsMore, Item}
use Rattle.krl_entries.proofs.Common.{inl, inr, length, List, map, refl, Section, section_size}
use Rattle.krl_entries.proofs.Common.{Serials, SomeSection, subst, sum_by, sym, TakesAddition, ℕ}
use Rattle.krl_entries.proofs.Members.{absent_parts}
use Rattle.krl_entries.proofs.SectionChanges.{takes_authority}
use Rattle.krl_entries.proofs.AddedSections.{put_size}
use Rattle.krl_entries.proofs.SomeSections.{some_middle, sum_adds, sum_middle}
use Rattle.krl_types.proofs.Elements.{contains_here, contains_later}

-- if an addition keeps a number of each section, it keeps the sum of these numbers
sum_stays : (addition : Addition) (b : List ℕ) (old new : List Section) (f : Section → ℕ) → ((from to : Section) → TakesAddition addition from to → f to ≡ f from) → f (empty_section b) ≡ 0 → AddsTo addition b old new → sum_by f new ≡ sum_by f old
sum_stays addition b old new f step none adds =
    elim adds [
      | inl c ↦ omega (arith, ap (sum_by f) c.before, ap (sum_by f) c.after, sum_middle f c.front c.from c.back, sum_middle f c.front c.to c.back, step c.from c.to c.changed)
      | inr n ↦ omega (arith, ap (sum_by f) n.put.before, ap (sum_by f) n.put.after, sum_middle f n.put.front n.section n.put.back, step (empty_section b) n.section n.takes)
    ]

addition_size : (addition : Addition) (from to : Section) → TakesAddition addition from to → section_size to ≤ section_size from + bytes_in addition
addition_size (Serials near) from to t =
    let same : section_size to ≡ section_size from = ap section_size t.same in omega arith
addition_size (Item kind id) from to t =
    let same : length to.authority ≡ length from.authority = ap (λ (x : Section). length x.authority) t.same in
    omega (arith, put_size from.ids id.now to.ids t.put)

empty_size : (b : List ℕ) → section_size (empty_section b) ≡ length b
empty_size b = omega arith

pub adds_stored : (addition : Addition) (b : List ℕ) (old new : List Section) → AddsTo addition b old new → sum_by section_size new ≤ sum_by section_size old + length b + bytes_in addition
adds_stored addition b old new adds =
    omega (arith, sum_adds addition b old new section_size (bytes_in addition) (addition_size addition) adds, empty_size b)

-- ---- held spans

pub held_stays : (addition : Addition) (n : ℕ) → HoldsMore addition n n
held_stays (Serials near) n = omega arith
held_stays (Item kind id) n = refl

pub adds_held : (addition : Addition) (b : List ℕ) (old new : List Section) → AddsTo addition b old new → HoldsMore addition (sum_by (λ section. length section.spans) old) (sum_by (λ section. length section.spans) new)
adds_held (Serials near) b old new adds =
    omega (arith, sum_adds (Serials near) b old new (λ section. length section.spans) (length near.now) (λ from to t. t.as_many_more) adds)
adds_held (Item kind id) b old new adds =
    sum_stays (Item kind id) b old new (λ section. length section.spans) (λ from to t. ap (λ (x : Section). length x.spans) t.same) refl adds

-- ---- named authorities

pub some_contains : (b : List ℕ) (sections : List Section) → SomeSection (λ section. section.authority ≡ b) sections → Contains (map (λ section. section.authority) sections) b
some_contains b [] h = absurd h
some_contains b (x ∷ xs) h =
    elim h [
      | inl here ↦ subst (λ a. Contains (x.authority ∷ map (λ section. section.authority) xs) a) here (contains_here x.authority (map (λ section. section.authority) xs))
      | inr later ↦ contains_later x.authority b (map (λ section. section.authority) xs) (some_contains b xs later)
    ]

sum_named : (addition : Addition) (b : List ℕ) (old new : List Section) (f : Section → ℕ) (more : ℕ) → ((from to : Section) → TakesAddition addition from to → f to ≤ f from + more) → SomeSection (λ section. section.authority ≡ b) old → AddsTo addition b old new → sum_by f new ≤ sum_by f old + more
sum_named addition b old new f more step named adds =
    elim adds [
      | inl c ↦ omega (arith, ap (sum_by f) c.before, ap (sum_by f) c.after, sum_middle f c.front c.from c.back, sum_middle f c.front c.to c.back, step c.from c.to c.changed)
      | inr n ↦
          let key : Section → List ℕ = λ section. section.authority in
          let at : n.section.authority ≡ b = takes_authority addition (empty_section b) n.section n.takes in
          absurd (absent_parts key n.section.authority n.put.front n.put.back n.put.below n.put.above
          (subst (λ a. Contains (map key (n.put.front ++ n.put.back)) a) (sym at) (subst (λ l. Contains (map key l) b) n.put.before (some_contains b old named))))
    ]

pub named_stored : (addition : Addition) (b : List ℕ) (old new : List Section) → SomeSection (λ section. section.authority ≡ b) old → AddsTo addition b old new → sum_by section_size new ≤ sum_by section_size old + bytes_in addition
named_stored addition b old new named adds = sum_named addition b old new section_size (bytes_in addition) (addition_size addition) named adds

pub adds_named : (addition : Addition) (b : List ℕ) (old new : List Section) → AddsTo addition b old new → SomeSection (λ section. section.authority ≡ b) new
adds_named addition b old new adds =
    let P : Section → Type 0 = λ section. section.authority ≡ b in
    elim adds [
      | inl c ↦ subst (SomeSection P) (sym c.after) ((some_middle P c.front c.to c.back).1 (inl (takes_authority addition c.from c.to c.changed ∙ c.under)))
      | inr n ↦ subst (SomeSection P) (sym n.put.after) ((some_middle P n.put.front n.section n.put.back).1 (inl (takes_authority addition (empty_section b) n.section n.takes)))
    ]

-- an authority that has a section keeps one
pub adds_stays : (addition : Addition) (b a : List ℕ) (old new : List Section) → AddsTo addition b old new → SomeSection (λ section. section.authority ≡ a) old → SomeSection (λ section. section.authority ≡ a) new
adds_stays addition b a old new adds named =
    let P : Section → Type 0 = λ section. section.authority ≡ a in
    elim adds [
      | inl c ↦ subst (SomeSection P) (sym c.after) ((some_middle P c.front c.to c.back).1 (⊎_map (λ here. takes_authority addition c.from c.to c.changed ∙ here) (λ other. other)
          ((some_middle P c.front c.from c.back).0 (subst (SomeSection P) c.before named))))
      | inr n ↦ subst (SomeSection P) (sym n.put.after) ((some_middle P n.put.front n.section n.put.back).1 (inr (subst (SomeSection P) n.put.before named)))
    ]
