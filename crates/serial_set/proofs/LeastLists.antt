-- One set has one rising list, and no list of intervals with the same members is shorter.
use Rattle.serial_set.proofs.Common.{[], ◌++◌, ◌+◌, ◌↔◌, ◌∙◌, ◌∷◌, ◌≡◌, ◌≤◌, ◌⊎◌, ap, arith}
use Rattle.serial_set.proofs.Common.{cases_lt, Covers, inl, inr, IsRuns, length, length-append}
use Rattle.serial_set.proofs.Common.{List, refl, RunsFrom, Span, SpanCovers, subst, sym, take, ℕ}
use Rattle.serial_set.proofs.RisingLists.{names_append, names_left, names_right, names_from}

-- ---- one list

same_span : (x y : Span) → x.lo ≡ y.lo → x.hi ≡ y.hi → x ≡ y
same_span x y p q =
    ap (λ (n : ℕ). record { lo = n; hi = x.hi }) p ∙ ap (λ (n : ℕ). record { lo = y.lo; hi = n }) q

-- the number after the first span is not a member
not_after : (a : ℕ) (x : Span) (xs : List Span) → RunsFrom a (x ∷ xs)
    → Covers (x ∷ xs) (x.hi + 1) → ⊥
not_after a x xs r n =
    elim n [
      | inl here ↦ omega (arith, here.1)
      | inr later ↦ omega (arith, names_from (x.hi + 2) xs (x.hi + 1) r.2 later)
    ]

first_no_lower : (a b : ℕ) (x y : Span) (xs ys : List Span) → RunsFrom a (x ∷ xs)
    → RunsFrom b (y ∷ ys) → ((s : ℕ) → Covers (x ∷ xs) s → Covers (y ∷ ys) s) → y.lo ≤ x.lo
first_no_lower a b x y xs ys r t to =
    names_from y.lo (y ∷ ys) x.lo (omega arith, t.1, t.2) (to x.lo (inl (omega arith, r.1)))

first_no_longer : (a b : ℕ) (x y : Span) (xs ys : List Span) → RunsFrom a (x ∷ xs)
    → RunsFrom b (y ∷ ys) → x.lo ≡ y.lo → ((s : ℕ) → Covers (y ∷ ys) s → Covers (x ∷ xs) s)
    → y.hi ≤ x.hi
first_no_longer a b x y xs ys r t same from =
    elim (cases_lt x.hi y.hi) [
      | inl longer ↦ absurd (not_after a x xs r (from (x.hi + 1) (inl (omega arith, omega arith))))
      | inr upto ↦ upto
    ]

rest_to : (a b : ℕ) (x y : Span) (xs ys : List Span) → RunsFrom a (x ∷ xs) → x.hi ≡ y.hi
    → ((s : ℕ) → Covers (x ∷ xs) s → Covers (y ∷ ys) s) → (s : ℕ) → Covers xs s → Covers ys s
rest_to a b x y xs ys r same to s n =
    let past = names_from (x.hi + 2) xs s r.2 n in
    elim (to s (inr n)) [ inl here ↦ absurd (omega (arith, here.1)) | inr later ↦ later ]

unique_from : (a b : ℕ) (xs ys : List Span) → RunsFrom a xs → RunsFrom b ys
    → ((s : ℕ) → Covers xs s → Covers ys s) → ((s : ℕ) → Covers ys s → Covers xs s) → xs ≡ ys
unique_from a b [] [] r t to from = refl
unique_from a b [] (y ∷ ys) r t to from = absurd (from y.lo (inl (omega arith, t.1)))
unique_from a b (x ∷ xs) [] r t to from = absurd (to x.lo (inl (omega arith, r.1)))
unique_from a b (x ∷ xs) (y ∷ ys) r t to from =
    let lower = first_no_lower a b x y xs ys r t to in
    let lo : x.lo ≡ y.lo = omega (arith, lower, first_no_lower b a y x ys xs t r from) in
    let longer = first_no_longer a b x y xs ys r t lo from in
    let hi : x.hi ≡ y.hi = omega (arith, longer, first_no_longer b a y x ys xs t r (sym lo) to) in
    let rest = unique_from (x.hi + 2) (y.hi + 2) xs ys r.2 t.2 (rest_to a b x y xs ys r hi to)
    (rest_to b a y x ys xs t (sym hi) from) in
    ap (λ z. z ∷ xs) (same_span x y lo hi) ∙ ap (λ zs. y ∷ zs) rest

pub runs_unique : (xs ys : List Span) → IsRuns xs → IsRuns ys
    → ((s : ℕ) → Covers xs s ↔ Covers ys s) → xs ≡ ys
runs_unique xs ys r t same = unique_from 0 0 xs ys r t (λ s. (same s).0) (λ s. (same s).1)

-- runs that are among others, and have each number of these up to the one after their own, are the first of those
-- others
pub runs_first : (a b : ℕ) (xs ys : List Span) → RunsFrom a xs → RunsFrom b ys
    → ((s : ℕ) → Covers xs s → Covers ys s)
    → ((s t : ℕ) → Covers xs t → s ≤ t + 1 → Covers ys s → Covers xs s) → xs ≡ take (length xs) ys
runs_first a b [] ys r t to from = refl
runs_first a b (x ∷ xs) [] r t to from = absurd (to x.lo (inl (omega arith, r.1)))
runs_first a b (x ∷ xs) (y ∷ ys) r t to from =
    let lower = first_no_lower a b x y xs ys r t to in
    let begins = from y.lo x.lo (inl (omega arith, r.1)) (omega arith) (inl (omega arith, t.1)) in
    let upper = names_from x.lo (x ∷ xs) y.lo (omega arith, r.1, r.2) begins in
    let lo : x.lo ≡ y.lo = omega arith in
    let shorter = first_no_longer b a y x ys xs t r (sym lo) to in
    let hi : x.hi ≡ y.hi = elim (cases_lt x.hi y.hi) [
      | inl longer ↦ absurd (not_after a x xs r (from (x.hi + 1) x.hi (inl (r.1, omega arith))
          (omega arith) (inl (omega arith, omega arith))))
      | inr upto ↦ omega arith
    ] in
    let rest = runs_first (x.hi + 2) (y.hi + 2) xs ys r.2 t.2 (rest_to a b x y xs ys r hi to)
    (λ s u m h n. elim (from s u (inr m) h (inr n)) [
      | inl here ↦ absurd (omega (arith, hi, here.1, names_from (y.hi + 2) ys s t.2 n))
      | inr later ↦ later
    ]) in
    ap (λ z. z ∷ xs) (same_span x y lo hi) ∙ ap (λ zs. y ∷ zs) rest

-- ---- the shortest list

-- a span that covers a member, taken out of the list
record Found (xs : List Span) (s : ℕ) : Type 0 where
  front : List Span
  span : Span
  back : List Span
  parts : xs ≡ front ++ span ∷ back
  held : SpanCovers span s

found_later : (x : Span) (xs : List Span) (s : ℕ) → Found xs s → Found (x ∷ xs) s
found_later x xs s f = record {
  front = x ∷ f.front;
  span = f.span;
  back = f.back;
  parts = ap (λ l. x ∷ l) f.parts;
  held = f.held;
}

found : (xs : List Span) (s : ℕ) → Covers xs s → Found xs s
found [] s n = absurd n
found (x ∷ xs) s n =
    elim n [
      | inl here ↦ record { front = []; span = x; back = xs; parts = refl; held = here }
      | inr later ↦ found_later x xs s (found xs s later)
    ]

without : (front : List Span) (span : Span) (back : List Span) (s : ℕ)
    → Covers (front ++ span ∷ back) s → SpanCovers span s ⊎ Covers (front ++ back) s
without front span back s n =
    elim (names_append front (span ∷ back) s n) [
      | inl l ↦ inr (names_left front back s l)
      | inr r ↦ elim r [ inl here ↦ inl here | inr later ↦ inr (names_right front back s later) ]
    ]

within : (front : List Span) (span : Span) (back : List Span) (s : ℕ) → Covers (front ++ back) s
    → Covers (front ++ span ∷ back) s
within front span back s n =
    elim (names_append front back s n) [
      | inl l ↦ names_left front (span ∷ back) s l
      | inr r ↦ names_right front (span ∷ back) s (inr r)
    ]

least_from : (a : ℕ) (runs others : List Span) → RunsFrom a runs
    → ((s : ℕ) → Covers runs s → Covers others s)
    → ((s : ℕ) → a ≤ s → Covers others s → Covers runs s) → length runs ≤ length others
least_from a [] others r to from = omega arith
least_from a (x ∷ xs) others r to from =
    let f = found others x.lo (to x.lo (inl (omega arith, r.1))) in
    let back : (s : ℕ) → Covers (f.front ++ f.span ∷ f.back) s → Covers others s =
    λ s n. subst (λ l. Covers l s) (sym f.parts) n in
    let apart : (s : ℕ) → x.hi + 2 ≤ s → SpanCovers f.span s → ⊥ = λ s past held.
    let next = x.hi + 1 in
    let in_span : SpanCovers f.span next = (omega (arith, f.held), omega (arith, held)) in
    not_after a x xs r (from next (omega arith)
    (back next (names_right f.front (f.span ∷ f.back) next (inl in_span)))) in
    let rest = least_from (x.hi + 2) xs (f.front ++ f.back) r.2
    (λ s n.
    let there = subst (λ l. Covers l s) f.parts (to s (inr n)) in
    elim (without f.front f.span f.back s there) [
      | inl held ↦ absurd (apart s (names_from (x.hi + 2) xs s r.2 n) held)
      | inr other ↦ other
    ])
    (λ s past n. elim (from s (omega arith) (back s (within f.front f.span f.back s n))) [
      | inl here ↦ absurd (omega (arith, here.1))
      | inr later ↦ later
    ]) in
    omega (
      arith,
      rest,
      ap length f.parts,
      length-append f.front f.back,
      length-append f.front (f.span ∷ f.back),
    )

pub runs_least : (runs others : List Span) → IsRuns runs
    → ((s : ℕ) → Covers runs s ↔ Covers others s) → length runs ≤ length others
runs_least runs others r same = least_from 0 runs others r (λ s. (same s).0) (λ s _. (same s).1)
