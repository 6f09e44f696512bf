-- An interval that is added to a rising list: it is merged with the spans that it touches.
use Rattle.span_vec.proofs.Common.{[], ◌++◌, ◌+◌, ◌-◌, ◌<◌, ◌∙◌, ◌∷◌, ◌≡◌, ◌≤◌, ◌⊎◌, add-zero}
use Rattle.span_vec.proofs.Common.{AddsSpan, All, All-drop, All-head, All-nil, All-tail, All-take}
use Rattle.span_vec.proofs.Common.{ap, arith, cases_lt, Covers, drop, drop-drop, get_or}
use Rattle.span_vec.proofs.Common.{get_or-drop, get_or-take, get_or_default, inl, inr, IsRuns}
use Rattle.span_vec.proofs.Common.{length, length-drop, length-take, List, max, min, names_append}
use Rattle.span_vec.proofs.Common.{names_left, names_right, refl, runs_apart, runs_front}
use Rattle.span_vec.proofs.Common.{runs_join, runs_middle, RunsFrom, RunsFrom-weaker, Span}
use Rattle.span_vec.proofs.Common.{SpanCovers, sub-one, subst, sym, take, take-append-drop, ℕ}
use Rattle.std.proofs.lemmas.Slice.{between_is}

-- where the last span of `m ∷ ms` ends
abbrev pub last_end : Span → List Span → ℕ
last_end m [] = m.hi
last_end m (x ∷ xs) = last_end x xs

-- the interval from lo to hi with the spans that it touches
abbrev pub joined : ℕ → ℕ → List Span → Span
joined lo hi [] = record { lo = lo; hi = hi }
joined lo hi (m ∷ ms) = record { lo = min lo m.lo; hi = max hi (last_end m ms) }

pub last_end-get_or : (m : Span) (ms : List Span) (d : Span) → (get_or (m ∷ ms) (length ms) d).hi ≡ last_end m ms
last_end-get_or m [] d = refl
last_end-get_or m (x ∷ xs) d = last_end-get_or x xs d

ends_within : (a : ℕ) (m : Span) (ms : List Span) → RunsFrom a (m ∷ ms) → m.hi ≤ last_end m ms
ends_within a m [] r = omega arith
ends_within a m (x ∷ xs) r = let rest = ends_within (m.hi + 2) x xs r.2 in omega arith

names_within : (a : ℕ) (m : Span) (ms : List Span) (s : ℕ) → RunsFrom a (m ∷ ms) → Covers (m ∷ ms) s → (m.lo ≤ s) × (s ≤ last_end m ms)
names_within a m [] s r n = elim n [ inl here ↦ here | inr later ↦ absurd later ]
names_within a m (x ∷ xs) s r n =
    let whole = ends_within (m.hi + 2) x xs r.2 in
    elim n [
      | inl here ↦ (here.0, omega arith)
      | inr later ↦ (let rest = names_within (m.hi + 2) x xs s r.2 later in (omega arith, rest.1))
    ]

-- if each span begins at hi + 1 at most, the last one covers all numbers past hi and up to its end
names_past : (hi : ℕ) (m : Span) (ms : List Span) (s : ℕ) → All (λ t. t.lo ≤ hi + 1) (m ∷ ms) → hi < s → s ≤ last_end m ms → Covers (m ∷ ms) s
names_past hi m [] s begin h k = let at : m.lo ≤ hi + 1 = All-head (λ t. t.lo ≤ hi + 1) m [] begin in inl (omega arith, k)
names_past hi m (x ∷ xs) s begin h k = inr (names_past hi x xs s (All-tail (λ t. t.lo ≤ hi + 1) m (x ∷ xs) begin) h k)

-- the spans after `m ∷ ms` rise from two past the last end
runs_following : (a : ℕ) (m : Span) (ms ys : List Span) → RunsFrom a (m ∷ (ms ++ ys)) → RunsFrom (last_end m ms + 2) ys
runs_following a m [] ys r = r.2
runs_following a m (x ∷ xs) ys r = runs_following (m.hi + 2) x xs ys r.2

runs_above : (a c : ℕ) (ys : List Span) → RunsFrom a ys → All (λ t. c < t.lo) ys → RunsFrom (max a (c + 1)) ys
runs_above a c [] r above = tt
runs_above a c (y ∷ ys) r above = let at : c < y.lo = All-head (λ t. c < t.lo) y ys above in (omega arith, r.1, r.2)

runs_back : (a : ℕ) (xs ys : List Span) → RunsFrom a (xs ++ ys) → RunsFrom 0 ys
runs_back a [] ys r = RunsFrom-weaker a 0 ys (omega arith) r
runs_back a (x ∷ xs) ys r = runs_back (x.hi + 2) xs ys r.2

joined_to : (a lo hi : ℕ) (ms : List Span) (s : ℕ) → RunsFrom a ms → All (λ t. lo ≤ t.hi + 1) ms → All (λ t. t.lo ≤ hi + 1) ms → SpanCovers (joined lo hi ms) s → Covers ms s ⊎ ((lo ≤ s) × (s ≤ hi))
joined_to a lo hi [] s r end begin h = inr h
joined_to a lo hi (m ∷ ms) s r end begin h =
    let reach : lo ≤ m.hi + 1 = All-head (λ t. lo ≤ t.hi + 1) m ms end in
    elim (cases_lt s lo) [
      | inl below ↦ inl (inl (omega arith, omega arith))
      | inr from ↦ elim (cases_lt hi s) [
        | inl past ↦ inl (names_past hi m ms s begin past (omega arith))
        | inr upto ↦ inr (from, upto)
      ]
    ]

joined_from : (a lo hi : ℕ) (ms : List Span) (s : ℕ) → RunsFrom a ms → Covers ms s ⊎ ((lo ≤ s) × (s ≤ hi)) → SpanCovers (joined lo hi ms) s
joined_from a lo hi [] s r n = elim n [ inl old ↦ absurd old | inr new ↦ new ]
joined_from a lo hi (m ∷ ms) s r n =
    elim n [
      | inl old ↦ (let within = names_within a m ms s r old in (omega arith, omega arith))
      | inr new ↦ (omega arith, omega arith)
    ]

joined_runs : (lo hi : ℕ) (xs ms ys : List Span) → RunsFrom 0 (xs ++ (ms ++ ys)) → lo ≤ hi → All (λ t. t.hi + 1 < lo) xs → All (λ t. hi + 1 < t.lo) ys → RunsFrom 0 (xs ++ joined lo hi ms ∷ ys)
joined_runs lo hi xs [] ys r h below above =
    runs_join 0 lo xs (joined lo hi [] ∷ ys) (omega arith) (runs_front 0 xs ys r) (λ k d q. let at = below k d q in omega arith)
    (omega arith, h, RunsFrom-weaker _ (hi + 2) ys (omega arith) (runs_above 0 (hi + 1) ys (runs_back 0 xs ys r) above))
joined_runs lo hi xs (m ∷ ms) ys r h below above =
    let middle = runs_middle 0 xs m (ms ++ ys) r in
    let apart = runs_apart 0 xs m (ms ++ ys) r in
    let after = runs_following 0 m ms ys (omega arith, middle.0, middle.1) in
    let whole = ends_within 0 m ms (omega arith, middle.0, runs_front (m.hi + 2) ms ys middle.1) in
    runs_join 0 (min lo m.lo) xs (joined lo hi (m ∷ ms) ∷ ys) (omega arith) (runs_front 0 xs (m ∷ (ms ++ ys)) r)
    (λ k d q. let at = below k d q in let to = apart k d q in omega arith)
    (omega arith, omega arith, RunsFrom-weaker _ (max hi (last_end m ms) + 2) ys (omega arith) (runs_above (last_end m ms + 2) (hi + 1) ys after above))

pub joined_runs_of : (lo hi : ℕ) (xs ms ys : List Span) → RunsFrom 0 (xs ++ (ms ++ ys)) → lo ≤ hi → All (λ t. t.hi + 1 < lo) xs → All (λ t. lo ≤ t.hi + 1) ms → All (λ t. t.lo ≤ hi + 1) ms → All (λ t. hi + 1 < t.lo) ys
    → AddsSpan (xs ++ (ms ++ ys)) lo hi (xs ++ joined lo hi ms ∷ ys)
joined_runs_of lo hi xs ms ys r h below end begin above =
    let back = runs_back 0 xs (ms ++ ys) r in
    let inner = runs_front 0 ms ys back in (
      joined_runs lo hi xs ms ys r h below above,
      λ s. (
        λ n. elim (names_append xs (joined lo hi ms ∷ ys) s n) [
          | inl l ↦ inl (names_left xs (ms ++ ys) s l)
          | inr later ↦ elim later [
            | inl here ↦ elim (joined_to 0 lo hi ms s inner end begin here) [
              | inl old ↦ inl (names_right xs (ms ++ ys) s (names_left ms ys s old))
              | inr new ↦ inr new
            ]
            | inr q ↦ inl (names_right xs (ms ++ ys) s (names_right ms ys s q))
          ]
        ],
        λ n. elim n [
          | inl old ↦ elim (names_append xs (ms ++ ys) s old) [
            | inl l ↦ names_left xs (joined lo hi ms ∷ ys) s l
            | inr later ↦ names_right xs (joined lo hi ms ∷ ys) s (elim (names_append ms ys s later) [
              | inl m ↦ inl (joined_from 0 lo hi ms s inner (inl m))
              | inr q ↦ inr q
            ])
          ]
          | inr new ↦ names_right xs (joined lo hi ms ∷ ys) s (inl (joined_from 0 lo hi ms s inner (inr new)))
        ],
      ),
    )

-- ---- by positions

joined-is : (lo hi : ℕ) (ms : List Span) (d : Span) → 0 < length ms → joined lo hi ms ≡ record { lo = min lo (get_or ms 0 d).lo; hi = max hi (get_or ms (length ms - 1) d).hi }
joined-is lo hi [] d h = absurd (omega arith)
joined-is lo hi (m ∷ ms) d h =
    rw (sub-one, last_end-get_or m ms d) refl

three_parts : (xs : List Span) (first end : ℕ) → first ≤ end → take first xs ++ (take (end - first) (drop first xs) ++ drop end xs) ≡ xs
three_parts xs first end h =
    let same : first + (end - first) ≡ end = omega arith in
    let after : drop (end - first) (drop first xs) ≡ drop end xs = drop-drop (end - first) first xs ∙ ap (λ n. drop n xs) same in
    ap (λ ys. take first xs ++ (take (end - first) (drop first xs) ++ ys)) (sym after)
    ∙ ap (λ ys. take first xs ++ ys) (take-append-drop (end - first) (drop first xs))
    ∙ take-append-drop first xs

added_parts : (xs : List Span) (lo hi first end : ℕ) → first ≤ end → IsRuns xs → lo ≤ hi → All (λ t. t.hi < lo - 1) (take first xs) → All (λ t. lo - 1 ≤ t.hi) (drop first xs) → All (λ t. t.lo ≤ hi + 1) (take end xs) → All (λ t. hi + 1 < t.lo) (drop end xs)
    → AddsSpan xs lo hi (take first xs ++ joined lo hi (take (end - first) (drop first xs)) ∷ drop end xs)
added_parts xs lo hi first end h runs ordered below from begin above =
    let parts = three_parts xs first end h in
    let ms = take (end - first) (drop first xs) in
    let whole : RunsFrom 0 (take first xs ++ (ms ++ drop end xs)) = subst (RunsFrom 0) (sym parts) runs in
    subst (λ l. AddsSpan l lo hi (take first xs ++ joined lo hi ms ∷ drop end xs)) parts
    (joined_runs_of lo hi (take first xs) ms (drop end xs) whole ordered (λ k d q. let at = below k d q in omega arith)
    (λ k d q. let at = All-take (λ t. lo - 1 ≤ t.hi) (end - first) (drop first xs) from k d q in omega arith)
    (subst (All (λ t. t.lo ≤ hi + 1)) (sym (between_is xs first end)) (All-drop (λ t. t.lo ≤ hi + 1) first (take end xs) begin)) above)

pub added_joined : (xs ys : List Span) (lo hi first end : ℕ) (a b : Span) → first < end → end ≤ length xs → IsRuns xs → lo ≤ hi → All (λ t. t.hi < lo - 1) (take first xs) → All (λ t. lo - 1 ≤ t.hi) (drop first xs) → All (λ t. t.lo ≤ hi + 1) (take end xs) → All (λ t. hi + 1 < t.lo) (drop end xs)
    → a ≡ get_or xs first a → b ≡ get_or xs (end - 1) b → ys ≡ take first xs ++ record { lo = min lo a.lo; hi = max hi b.hi } ∷ drop end xs → AddsSpan xs lo hi ys
added_joined xs ys lo hi first end a b h within runs ordered below from begin above at_a at_b new =
    let ms = take (end - first) (drop first xs) in
    let len : length ms ≡ end - first = omega (arith, length-take (end - first) (drop first xs), length-drop first xs) in
    let zero_in : 0 < end - first = omega arith in
    let last_in : end - first - 1 < end - first = omega arith in
    let begins : get_or ms 0 a ≡ a = get_or-take (end - first) (drop first xs) 0 a zero_in ∙ get_or-drop first xs 0 a ∙ ap (λ n. get_or xs n a) (add-zero first) ∙ sym at_a in
    let position : first + (end - first - 1) ≡ end - 1 = omega arith in
    let ends : get_or ms (length ms - 1) a ≡ b =
    ap (λ n. get_or ms (n - 1) a) len ∙ get_or-take (end - first) (drop first xs) (end - first - 1) a last_in ∙ get_or-drop first xs (end - first - 1) a
    ∙ ap (λ n. get_or xs n a) position ∙ get_or_default xs (end - 1) a b (omega arith) ∙ sym at_b in
    let span : joined lo hi ms ≡ record { lo = min lo a.lo; hi = max hi b.hi } =
    joined-is lo hi ms a (omega arith) ∙ ap (λ (t : Span). record { lo = min lo t.lo; hi = max hi (get_or ms (length ms - 1) a).hi }) begins
    ∙ ap (λ (t : Span). record { lo = min lo a.lo; hi = max hi t.hi }) ends in
    let all : ys ≡ take first xs ++ joined lo hi ms ∷ drop end xs = new ∙ ap (λ t. take first xs ++ t ∷ drop end xs) (sym span) in
    subst (λ l. AddsSpan xs lo hi l) (sym all) (added_parts xs lo hi first end (omega arith) runs ordered below from begin above)

pub added_apart : (xs ys : List Span) (lo hi first end : ℕ) → end ≤ first → IsRuns xs → lo ≤ hi → All (λ t. t.hi < lo - 1) (take first xs) → All (λ t. hi + 1 < t.lo) (drop end xs) → ys ≡ take first xs ++ record { lo = lo; hi = hi } ∷ drop first xs
    → AddsSpan xs lo hi ys
added_apart xs ys lo hi first end h runs ordered below above new =
    let position : end + (first - end) ≡ first = omega arith in
    let after : drop (first - end) (drop end xs) ≡ drop first xs = drop-drop (first - end) end xs ∙ ap (λ n. drop n xs) position in
    let past : All (λ t. hi + 1 < t.lo) (drop first xs) = subst (All (λ t. hi + 1 < t.lo)) after (All-drop (λ t. hi + 1 < t.lo) (first - end) (drop end xs) above) in
    let parts = take-append-drop first xs in
    let whole : RunsFrom 0 (take first xs ++ drop first xs) = subst (RunsFrom 0) (sym parts) runs in
    let done = joined_runs_of lo hi (take first xs) [] (drop first xs) whole ordered (λ k d q. let at = below k d q in omega arith) (All-nil (λ t. lo ≤ t.hi + 1)) (All-nil (λ t. t.lo ≤ hi + 1)) past in
    subst (λ l. AddsSpan xs lo hi l) (sym new)
    (subst (λ l. AddsSpan l lo hi (take first xs ++ record { lo = lo; hi = hi } ∷ drop first xs)) parts done)
