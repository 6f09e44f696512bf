-- Spans that lie near each other, and their bits.
use Rattle.span_sets.proofs.Common.{[], ◌%◌, ◌*◌, ◌++◌, ◌+◌, ◌-◌, ◌<◌, ◌^◌, ◌↔◌, ◌∷◌, ◌≡◌, ◌≤◌, ◌⊎◌}
use Rattle.span_sets.proofs.Common.{AddsSpan, All, All-head, All-tail, ap, arith, bit_at}
use Rattle.span_sets.proofs.Common.{bit_at-zero, bit_or, BitCovers, cases_lt, Covers, get_or, inl}
use Rattle.span_sets.proofs.Common.{inr, IsRuns, length, length-append, List, names_append}
use Rattle.span_sets.proofs.Common.{names_left, names_right, runs_least, Span, SpanCovers, subst}
use Rattle.span_sets.proofs.Common.{sym, take, take_more, ℕ}
use Rattle.span_sets.proofs.ChunkMembers.{in_or}
use Rattle.serial_set.specs.BitRuns.{IsInterval}
use Rattle.serial_set.specs.Near.{AddsSpans, LiesIn}
use Rattle.span_sets.proofs.SetChunks.{mask_has}

-- one more span
pub covers_more : (spans : List Span) (i : ℕ) (d : Span) (s : ℕ) → i < length spans → Covers (take (i + 1) spans) s ↔ (Covers (take i spans) s ⊎ SpanCovers (get_or spans i d) s)
covers_more spans i d s h =
    let last : List Span = get_or spans i d ∷ [] in
    subst (λ (l : List Span). Covers l s ↔ (Covers (take i spans) s ⊎ SpanCovers (get_or spans i d) s)) (sym (take_more spans i d h)) (
      λ n. elim (names_append (take i spans) last s n) [ inl l ↦ inl l | inr r ↦ elim r [ inl here ↦ inr here | inr none ↦ absurd none ] ],
      λ n. elim n [ inl l ↦ names_left (take i spans) last s l | inr here ↦ names_right (take i spans) last s (inl here) ],
    )

pub bits_more : (spans : List Span) (i window bits mask : ℕ) (d : Span) → i < length spans → All IsInterval spans → All (LiesIn window) spans → mask ≡ 2 ^ ((get_or spans i d).hi % 64 + 1) - 2 ^ ((get_or spans i d).lo % 64)
    → ((s : ℕ) → BitCovers 64 (64 * window) bits s ↔ Covers (take i spans) s) → (s : ℕ) → BitCovers 64 (64 * window) (bit_or bits mask) s ↔ Covers (take (i + 1) spans) s
bits_more spans i window bits mask d h intervals near is so s =
    let span = get_or spans i d in
    let at = near i d h in
    let both = in_or (64 * window) bits mask s in
    let more = covers_more spans i d s h in
    let has : BitCovers 64 (64 * window) mask s ↔ SpanCovers span s =
    subst (λ (w : ℕ). BitCovers 64 (64 * w) mask s ↔ SpanCovers span s) at.0 (mask_has span.lo span.hi mask s (omega (arith, at.0, at.1)) (intervals i d h).1 is) in (
      λ n. more.1 (elim (both.0 n) [ inl x ↦ inl ((so s).0 x) | inr y ↦ inr (has.0 y) ]),
      λ n. both.1 (elim (more.0 n) [ inl x ↦ inl ((so s).1 x) | inr y ↦ inr (has.1 y) ]),
    )

-- ---- an addition makes the list longer by at most as many runs as there are spans

pub adds_more : (old more new : List Span) → AddsSpans old more new → length new ≤ length old + length more
adds_more old more new adds =
    let least = runs_least new (old ++ more) adds.0
    (λ s. (
      λ n. elim ((adds.1 s).0 n) [ inl was ↦ names_left old more s was | inr here ↦ names_right old more s here ],
      λ n. (adds.1 s).1 (names_append old more s n),
    )) in
    omega (arith, least, length-append old more)

pub adds_one : (old new : List Span) (lo hi : ℕ) → AddsSpan old lo hi new → AddsSpans old (record { lo = lo; hi = hi } ∷ []) new
adds_one old new lo hi adds = (
  adds.0,
  λ s. (
    λ n. elim ((adds.1 s).0 n) [ inl was ↦ inl was | inr here ↦ inr (inl here) ],
    λ n. (adds.1 s).1 (elim n [ inl was ↦ inl was | inr here ↦ elim here [ inl at ↦ inr at | inr none ↦ absurd none ] ]),
  ),
)

pub covered_is_serial : (spans : List Span) (s : ℕ) → All IsInterval spans → Covers spans s → 0 < s
covered_is_serial [] s h n = absurd n
covered_is_serial (x ∷ xs) s h n =
    let first = (All-head IsInterval x xs h).0 in
    elim n [ inl here ↦ omega (arith, here.0) | inr later ↦ covered_is_serial xs s (All-tail IsInterval x xs h) later ]

-- ---- none, or only one

pub adds_none : (runs none : List Span) → IsRuns runs → length none ≤ 0 → AddsSpans runs none runs
adds_none runs [] r h = (r, λ s. (λ n. inl n, λ n. elim n [ inl was ↦ was | inr nothing ↦ absurd nothing ]))
adds_none runs (x ∷ xs) r h = absurd (omega arith)

pub adds_only : (old near new : List Span) (d : Span) → length near ≡ 1 → AddsSpan old (get_or near 0 d).lo (get_or near 0 d).hi new → AddsSpans old near new
adds_only old [] new d one adds = absurd (omega arith)
adds_only old (x ∷ []) new d one adds = adds_one old new x.lo x.hi adds
adds_only old (x ∷ (y ∷ ys)) new d one adds = absurd (omega arith)

-- a span covers some number
pub some_covered : (spans : List Span) → 0 < length spans → All IsInterval spans → (s : ℕ) × Covers spans s
some_covered [] some h = absurd (omega arith)
some_covered (x ∷ xs) some h = let first = All-head IsInterval x xs h in (x.lo, inl (omega arith, first.1))

-- and a bit that represents it
pub bits_some : (base bits s : ℕ) → BitCovers 64 base bits s → 0 < bits
bits_some base bits s n =
    elim (cases_lt 0 bits) [
      | inl some ↦ some
      | inr none ↦ absurd (let zero : bits ≡ 0 = omega arith in omega (arith, n.2, ap (λ b. bit_at b (s - base)) zero, bit_at-zero (s - base)))
    ]
