-- An iteration over runs: what is left of them after a piece, and that the iteration comes to its
-- end.
use Rattle.serial_set.proofs.Common.{[], ◌+◌, ◌-◌, ◌<◌, ◌^◌, ◌∙◌, ◌∷◌, ◌≡◌, ◌≤◌, All, All-head}
use Rattle.serial_set.proofs.Common.{All-tail, ap, AreSerials, arith, Bool, clipped, Covers, drop}
use Rattle.serial_set.proofs.Common.{get_or, inl, inr, IsPiece, IsRuns, leb_tells, left, length}
use Rattle.serial_set.proofs.Common.{length-drop, length-take, List, max, min, nat_le, next_by}
use Rattle.serial_set.proofs.Common.{next_of, None, Option, past, refl, RunsFrom, since, since_by}
use Rattle.serial_set.proofs.Common.{Some, SomeIff, Span, steps, subst, suc, sym, take, take_min}
use Rattle.serial_set.proofs.Common.{zero, ℕ}
use Rattle.serial_set.proofs.RisingLists.{names_from, RunsFrom-weaker}
use Rattle.serial_set.proofs.LeastLists.{runs_unique}

-- ---- what is left from a number on

pub since_runs : (a n : ℕ) (xs : List Span) → RunsFrom a xs → RunsFrom (max a n) (since n xs)
since_runs a n [] r = tt
since_runs a n (x ∷ xs) r =
    let P : Bool → Type 0 = λ v. RunsFrom (max a n) (since_by v n x xs (since n xs)) in
    elim (leb_tells n x.hi) [
      | inr ends ↦ subst P (sym ends.0) (RunsFrom-weaker (max (x.hi + 2) n) (max a n) (since n xs)
          (omega arith) (since_runs (x.hi + 2) n xs r.2))
      | inl goes ↦ subst P (sym goes.0) (omega arith, omega arith, r.2)
    ]

pub since_to : (a n : ℕ) (xs : List Span) (s : ℕ) → RunsFrom a xs → Covers (since n xs) s
    → Covers xs s × (n ≤ s)
since_to a n [] s r m = absurd m
since_to a n (x ∷ xs) s r m =
    let P : Bool → Type 0 =
    λ v. Covers (since_by v n x xs (since n xs)) s → Covers (x ∷ xs) s × (n ≤ s) in
    elim (leb_tells n x.hi) [
      | inr ends ↦ subst P (sym ends.0)
          (λ k. let rest = since_to (x.hi + 2) n xs s r.2 k in (inr rest.0, rest.1)) m
      | inl goes ↦ subst P (sym goes.0) (λ k. elim k [
        | inl here ↦ (inl (omega arith, here.1), omega arith)
        | inr later ↦ (let far = names_from (x.hi + 2) xs s r.2 later in (inr later, omega arith))
      ]) m
    ]

pub since_from : (a n : ℕ) (xs : List Span) (s : ℕ) → RunsFrom a xs → Covers xs s → n ≤ s
    → Covers (since n xs) s
since_from a n [] s r m h = absurd m
since_from a n (x ∷ xs) s r m h =
    let P : Bool → Type 0 = λ v. Covers (since_by v n x xs (since n xs)) s in
    elim (leb_tells n x.hi) [
      | inr ends ↦ subst P (sym ends.0) (elim m [
        | inl here ↦ absurd (omega (arith, here.1))
        | inr later ↦ since_from (x.hi + 2) n xs s r.2 later h
      ])
      | inl goes ↦ subst P (sym goes.0) (elim m [
        | inl here ↦ inl (omega arith, here.1)
        | inr later ↦ inr later
      ])
    ]

-- everything is left from where the runs begin
pub since_same : (n : ℕ) (xs : List Span) → RunsFrom n xs → since n xs ≡ xs
since_same n [] r = refl
since_same n (x ∷ xs) r =
    let P : Bool → Type 0 = λ v. since_by v n x xs (since n xs) ≡ x ∷ xs in
    elim (leb_tells n x.hi) [
      | inr ends ↦ absurd (omega arith)
      | inl goes ↦ (
          let e : max n x.lo ≡ x.lo = omega arith in
          subst P (sym goes.0) (ap (λ (k : ℕ). record { lo = k; hi = x.hi } ∷ xs) e)
          )
    ]

-- a span that ends before a number is skipped
pub since_past : (n : ℕ) (x : Span) (xs : List Span) → x.hi < n
    → since n (x ∷ xs) ≡ since n xs
since_past n x xs h =
    let P : Bool → Type 0 = λ v. since_by v n x xs (since n xs) ≡ since n xs in
    elim (leb_tells n x.hi) [
      | inr ends ↦ subst P (sym ends.0) refl
      | inl goes ↦ absurd (omega arith)
    ]

-- from a later number on: what is left of what was left
pub since_again : (a m n : ℕ) (xs : List Span) → RunsFrom a xs → m ≤ n
    → since n (since m xs) ≡ since n xs
since_again a m n xs r h =
    let inner = since_runs a m xs r in
    let one = since_runs (max a m) n (since m xs) inner in
    let two = since_runs a n xs r in
    runs_unique (since n (since m xs)) (since n xs)
    (RunsFrom-weaker (max (max a m) n) 0 _ (omega arith) one)
    (RunsFrom-weaker (max a n) 0 _ (omega arith) two)
    (λ s. (
      λ k. let there = since_to (max a m) n (since m xs) s inner k in
          since_from a n xs s r (since_to a m xs s r there.0).0 there.1,
      λ k. let there = since_to a n xs s r k in
          since_from (max a m) n (since m xs) s inner
          (since_from a m xs s r there.0 (omega (arith, there.1))) there.1,
    ))

-- ---- after a piece

past_in : (a k : ℕ) (x : Span) (xs : List Span) → RunsFrom a (x ∷ xs)
    → x.hi < past (take (suc k) (x ∷ xs))
past_in a zero x xs r = omega arith
past_in a (suc k) x [] r = omega arith
past_in a (suc k) x (y ∷ ys) r =
    let rest = past_in (x.hi + 2) k y ys r.2 in
    omega (arith, rest, r.2.0, r.2.1)

-- after the first spans, the others are left
since_drop : (a k : ℕ) (xs : List Span) → RunsFrom a xs → since (past (take k xs)) xs ≡ drop k xs
since_drop a zero xs r = since_same 0 xs (RunsFrom-weaker a 0 xs (omega arith) r)
since_drop a (suc k) [] r = refl
since_drop a (suc zero) (x ∷ xs) r =
    since_past (x.hi + 1) x xs (omega arith)
    ∙ since_same (x.hi + 1) xs (RunsFrom-weaker (x.hi + 2) (x.hi + 1) xs (omega arith) r.2)
since_drop a (suc (suc k)) (x ∷ []) r = since_past (x.hi + 1) x [] (omega arith)
since_drop a (suc (suc k)) (x ∷ y ∷ ys) r =
    let far = past_in (x.hi + 2) k y ys r.2 in
    since_past (past (take (suc k) (y ∷ ys))) x (y ∷ ys) (omega (arith, far, r.2.0, r.2.1))
    ∙ since_drop (x.hi + 2) (suc k) (y ∷ ys) r.2

-- ---- the steps of an iteration

none_of : (zs : List Span) → (0 < length zs → 0 < 0) → [] ≡ zs
none_of [] h = refl
none_of (z ∷ zs) h = absurd (omega (arith, h (omega arith)))

no_member : (a : ℕ) (ys : List Span) → RunsFrom a ys → ((s : ℕ) → Covers ys s → ⊥) → ys ≡ []
no_member a [] r h = refl
no_member a (y ∷ ys) r h = absurd (h y.lo (inl (omega arith, r.1)))

past_from : (a k : ℕ) (zs : List Span) (x : Span) (xs : List Span) → RunsFrom a zs
    → x ∷ xs ≡ take (suc k) zs → a < past (take (suc k) zs)
past_from a k [] x xs r e = absurd cc
past_from a k (z ∷ zs) x xs r e = let far = past_in a k z zs r in omega arith

none_past : (e : ℕ) (zs : List Span) → RunsFrom 0 zs → ((s : ℕ) → Covers zs s → s < e)
    → since e zs ≡ []
none_past e zs r h =
    no_member (max 0 e) (since e zs) (since_runs 0 e zs r)
    (λ s m. let there = since_to 0 e zs s r m in omega (arith, there.1, h s there.0))

-- after a piece, the rest of what was left is left
pub iteration_continues : (spans piece : List Span) (n : ℕ) → IsRuns spans → AreSerials spans
    → IsPiece spans n piece → left (next_of piece) spans ≡ drop (length piece) (since n spans)
iteration_continues spans [] n r fits p = none_of (since n spans) p.some
iteration_continues spans (x ∷ xs) n r fits p =
    let rest = since n spans in
    let k = length (x ∷ xs) in
    let end = past (x ∷ xs) in
    let from : RunsFrom (max 0 n) rest = since_runs 0 n spans r in
    let runs : RunsFrom 0 rest = RunsFrom-weaker (max 0 n) 0 rest (omega arith) from in
    let same : end ≡ past (take k rest) = ap past p.front in
    let after : since end rest ≡ drop k rest =
    ap (λ (m : ℕ). since m rest) same ∙ since_drop 0 k rest runs in
    let up = past_from (max 0 n) (length xs) rest x xs from p.front in
    let P : Bool → Type 0 = λ v. left (next_by v end) spans ≡ drop k rest in
    elim (leb_tells end (2 ^ 64 - 1)) [
      | inl fit ↦ subst P (sym fit.0) (sym (since_again 0 n end spans r (omega arith)) ∙ after)
      | inr big ↦ subst P (sym big.0) (sym (none_past end rest runs
          (λ s m. let fit = fits s (since_to 0 n spans s r m).0 in omega arith)) ∙ after)
    ]

steps_left : (next : Option ℕ) (spans : List Span) → steps next spans ≤ length (left next spans) + 1
steps_left None spans = omega arith
steps_left (Some n) spans = omega arith

-- an iteration comes to its end
pub iteration_ends : (spans piece : List Span) (n : ℕ) → IsRuns spans → AreSerials spans
    → IsPiece spans n piece → steps (next_of piece) spans < steps (Some n) spans
iteration_ends spans [] n r fits p = omega arith
iteration_ends spans (x ∷ xs) n r fits p =
    omega (
      arith,
      steps_left (next_of (x ∷ xs)) spans,
      ap length (iteration_continues spans (x ∷ xs) n r fits p),
      length-drop (length (x ∷ xs)) (since n spans),
      ap length p.front,
      length-take (length (x ∷ xs)) (since n spans),
    )

next_by_is : (end : ℕ) (next : Option ℕ) → SomeIff next (end < 2 ^ 64) end
    → next ≡ next_by (nat_le end (2 ^ 64 - 1)) end
next_by_is end None is =
    elim (leb_tells end (2 ^ 64 - 1)) [
      | inl fit ↦ absurd (is (omega arith))
      | inr big ↦ subst (λ v. None ≡ next_by v end) (sym big.0) refl
    ]
next_by_is end (Some n) is =
    elim (leb_tells end (2 ^ 64 - 1)) [
      | inl fit ↦ subst (λ v. Some n ≡ next_by v end) (sym fit.0) (ap (λ (m : ℕ). Some m) is.1)
      | inr big ↦ absurd (omega (arith, is.0))
    ]

-- where the last span ends
pub past_last : (xs : List Span) (d : Span) → 0 < length xs
    → past xs ≡ (get_or xs (length xs - 1) d).hi + 1
past_last [] d h = absurd (omega arith)
past_last (x ∷ []) d h = refl
past_last (x ∷ y ∷ ys) d h =
    let e : suc (length (y ∷ ys) - 1) ≡ length (x ∷ y ∷ ys) - 1 = omega arith in
    past_last (y ∷ ys) d (omega arith) ∙ ap (λ (i : ℕ). (get_or (x ∷ y ∷ ys) i d).hi + 1) e

-- the number after the last span, or none
pub next_is : (xs : List Span) (d : Span) (next : Option ℕ) → 0 < length xs
    → (let end = (get_or xs (length xs - 1) d).hi + 1 in SomeIff next (end < 2 ^ 64) end)
    → next ≡ next_of xs
next_is [] d next h is = absurd (omega arith)
next_is (x ∷ xs) d next h is =
    next_by_is (past (x ∷ xs)) next
    (subst (λ (m : ℕ). SomeIff next (m < 2 ^ 64) m) (sym (past_last (x ∷ xs) d h)) is)

-- if there is no run, there is no number
pub next_none : (xs : List Span) → length xs ≡ 0 → None ≡ next_of xs
next_none [] e = refl
next_none (x ∷ xs) e = absurd (omega arith)

-- ---- pieces that are made

pub since_clipped : (n : ℕ) (xs : List Span) → All (λ t. n ≤ t.hi) xs → since n xs ≡ clipped n xs
since_clipped n [] h = refl
since_clipped n (x ∷ xs) h =
    let first : n ≤ x.hi = All-head (λ t. n ≤ t.hi) x xs h in
    elim (leb_tells n x.hi) [
      | inl goes ↦
          subst (λ v. since_by v n x xs (since n xs) ≡ clipped n (x ∷ xs)) (sym goes.0) refl
      | inr ends ↦ absurd (omega arith)
    ]

pub clipped_take : (n k : ℕ) (xs : List Span) → clipped n (take k xs) ≡ take k (clipped n xs)
clipped_take n zero xs = refl
clipped_take n (suc k) [] = refl
clipped_take n (suc k) (x ∷ xs) = refl

-- the first runs of what is left are a piece
pub piece_first : (spans rest piece : List Span) (n : ℕ) → since n spans ≡ rest
    → piece ≡ take 32 rest → IsPiece spans n piece
piece_first spans rest piece n e p =
    let size : length piece ≡ min 32 (length rest) = ap length p ∙ length-take 32 rest in
    let some : length (since n spans) ≡ length rest = ap length e in
    record {
      some = λ h. omega arith;
      front = p ∙ sym (take_min 32 rest) ∙ ap (λ (k : ℕ). take k rest) (sym size)
          ∙ ap (λ (l : List Span). take (length piece) l) (sym e);
    }

-- what is left is among the spans after those that end before the number
pub since_after : (n k : ℕ) (xs : List Span) → All (λ t. t.hi < n) (take k xs)
    → since n xs ≡ since n (drop k xs)
since_after n zero xs h = refl
since_after n (suc k) [] h = refl
since_after n (suc k) (x ∷ xs) h =
    let first : x.hi < n = All-head (λ t. t.hi < n) x (take k xs) h in
    since_past n x xs first ∙ since_after n k xs (All-tail (λ t. t.hi < n) x (take k xs) h)

-- ---- how many runs there are

few_from : (a : ℕ) (spans : List Span) → RunsFrom a spans
    → ((s : ℕ) → Covers spans s → s < 2 ^ 64) → a ≤ 2 ^ 64 → length spans + a ≤ 2 ^ 64
few_from a [] r fits h = omega arith
few_from a (x ∷ []) r fits h =
    let end : x.hi < 2 ^ 64 = fits x.hi (inl (r.1, omega arith)) in omega arith
few_from a (x ∷ (y ∷ ys)) r fits h =
    let far : y.hi < 2 ^ 64 = fits y.hi (inr (inl (r.2.1, omega arith))) in
    let more = few_from (x.hi + 1) (y ∷ ys) (omega arith, r.2.1, r.2.2) (λ s n. fits s (inr n))
    (omega arith) in
    omega arith

-- there are fewer runs of serials than numbers of 64 bits
pub runs_few : (spans : List Span) → IsRuns spans → AreSerials spans → length spans < 2 ^ 64
runs_few [] r fits = omega arith
runs_few (x ∷ xs) r fits =
    let at = fits x.lo (inl (omega arith, r.1)) in
    let few = few_from 1 (x ∷ xs) (omega arith, r.1, r.2) (λ s n. (fits s n).1) (omega arith) in
    omega arith
