-- Chunks in order: their positions, and where they end.
use Rattle.span_sets.proofs.Common.{[], ◌++◌, ◌+◌, ◌-◌, ◌<◌, ◌∙◌, ◌∷◌, ◌≡◌, ◌≤◌, All, All-cons}
use Rattle.span_sets.proofs.Common.{All-head, All-nil, All-tail, ap, arith, cases_eq, cases_lt}
use Rattle.span_sets.proofs.Common.{Chunk, ChunksFrom, drop, end_of, get_or, get_or-set_other}
use Rattle.span_sets.proofs.Common.{get_or-set_same, hi_of, inl, inr, IsNonDecreasingBy, length}
use Rattle.span_sets.proofs.Common.{length-set, List, lo_of, refl, set, stretch, subst, suc, sym}
use Rattle.span_sets.proofs.Common.{take, take-append-drop, take_all, zero, ℕ}
use Rattle.span_sets.proofs.OrderedChunks.{chunks_back}

pub chunks_each : (a : ℕ) (es : List Chunk) → ChunksFrom a es → All (λ e. a ≤ lo_of e) es
chunks_each a [] r = All-nil (λ e. a ≤ lo_of e)
chunks_each a (e ∷ es) r =
    let whole = stretch e in
    let rest = chunks_each (hi_of e + 1) es r.1 in
    All-cons (λ e. a ≤ lo_of e) e es r.0 (λ k d q. let at = rest k d q in omega arith)

-- ends rise
pub his_rise : (a : ℕ) (es : List Chunk) → ChunksFrom a es → IsNonDecreasingBy hi_of es
his_rise a [] r i j d h k = absurd (omega arith)
his_rise a (e ∷ es) r zero zero d h k = omega arith
his_rise a (e ∷ es) r zero (suc j) d h k =
    let next = get_or es j d in
    let from = chunks_each (hi_of e + 1) es r.1 j d (omega arith) in
    let whole = stretch next in
    omega arith
his_rise a (e ∷ es) r (suc i) zero d h k = absurd (omega arith)
his_rise a (e ∷ es) r (suc i) (suc j) d h k = his_rise (hi_of e + 1) es r.1 i j d (omega arith) (omega arith)

-- ---- where a list ends

-- the last chunk of those from a position on
pub end_at : (es : List Chunk) (from : ℕ) (d : Chunk) → from < length es
    → end_of (drop from es) ≡ hi_of (get_or es (length es - 1) d)
end_at [] from d h = absurd (omega arith)
end_at (e ∷ []) zero d h = refl
end_at (e ∷ []) (suc from) d h = absurd (omega arith)
end_at (e ∷ (f ∷ es)) zero d h =
    let step : length (e ∷ (f ∷ es)) - 1 ≡ suc (length (f ∷ es) - 1) = omega arith in
    end_at (f ∷ es) zero d (omega arith) ∙ ap (λ n. hi_of (get_or (e ∷ (f ∷ es)) n d)) (sym step)
end_at (e ∷ (f ∷ es)) (suc from) d h =
    let step : length (e ∷ (f ∷ es)) - 1 ≡ suc (length (f ∷ es) - 1) = omega arith in
    end_at (f ∷ es) from d (omega arith) ∙ ap (λ n. hi_of (get_or (e ∷ (f ∷ es)) n d)) (sym step)

-- a list ends where its second part does
pub end_back : (xs ys : List Chunk) → 0 < length ys → end_of (xs ++ ys) ≡ end_of ys
end_back [] ys h = refl
end_back (x ∷ []) [] h = absurd (omega arith)
end_back (x ∷ []) (y ∷ ys) h = refl
end_back (x ∷ (z ∷ xs)) ys h = end_back (z ∷ xs) ys h

pub end_drop : (es : List Chunk) (n : ℕ) → n < length es → end_of (drop n es) ≡ end_of es
end_drop [] n h = absurd (omega arith)
end_drop (e ∷ es) n h =
    end_at (e ∷ es) n e h ∙ sym (end_at (e ∷ es) 0 e (omega arith))

-- no chunk ends past the end
pub end_most : (a : ℕ) (es : List Chunk) → ChunksFrom a es → All (λ e. hi_of e ≤ end_of es) es
end_most a [] r = All-nil (λ e. hi_of e ≤ 0)
end_most a (e ∷ []) r =
    All-cons (λ f. hi_of f ≤ hi_of e) e [] (omega arith) (All-nil (λ f. hi_of f ≤ hi_of e))
end_most a (e ∷ (f ∷ es)) r =
    let rest = end_most (hi_of e + 1) (f ∷ es) r.1 in
    let next : hi_of f ≤ end_of (f ∷ es) = All-head (λ t. hi_of t ≤ end_of (f ∷ es)) f es rest in
    let whole = stretch f in
    let begins : hi_of e + 1 ≤ lo_of f = r.1.0 in
    All-cons (λ t. hi_of t ≤ end_of (f ∷ es)) e (f ∷ es) (omega arith) rest

-- if each chunk ends at a number or below it, so does the last
pub end_upto : (n : ℕ) (es : List Chunk) → All (λ e. hi_of e ≤ n) es → end_of es ≤ n
end_upto n [] h = omega arith
end_upto n (e ∷ []) h = All-head (λ t. hi_of t ≤ n) e [] h
end_upto n (e ∷ (f ∷ es)) h =
    end_upto n (f ∷ es) (All-tail (λ t. hi_of t ≤ n) e (f ∷ es) h)

-- chunks after a list begin past its end
pub chunks_past : (a : ℕ) (xs ys : List Chunk) → 0 < length xs → ChunksFrom a (xs ++ ys)
    → ChunksFrom (end_of xs + 1) ys
chunks_past a [] ys some r = absurd (omega arith)
chunks_past a (x ∷ []) ys some r = r.1
chunks_past a (x ∷ (z ∷ xs)) ys some r =
    chunks_past (hi_of x + 1) (z ∷ xs) ys (omega arith) r.1

-- ---- split at a position

pub order_drop : (a : ℕ) (es : List Chunk) (n : ℕ) → ChunksFrom a es → ChunksFrom a (drop n es)
order_drop a es n r =
    chunks_back a (take n es) (drop n es) (subst (ChunksFrom a) (sym (take-append-drop n es)) r)

-- an end past a number is that of a chunk past it
pub count_less : (number count : ℕ) (es : List Chunk) → All (λ e. hi_of e ≤ number) (take count es) → number < end_of es → count < length es
count_less number count es upto past =
    elim (cases_lt count (length es)) [
      | inl less ↦ less
      | inr all ↦ absurd (omega (arith, end_upto number es (subst (All (λ e. hi_of e ≤ number)) (take_all count es all) upto)))
    ]

-- one chunk replaced by another that ends at the same number
pub end_set : (es : List Chunk) (at : ℕ) (x d : Chunk) → at < length es → hi_of x ≡ hi_of (get_or es at d) → end_of (set es at x) ≡ end_of es
end_set es at x d h same =
    let long = length-set es at x in
    let last = length es - 1 in
    let read : hi_of (get_or (set es at x) last d) ≡ hi_of (get_or es last d) =
    elim (cases_eq at last) [
      | inl is ↦ subst (λ n. hi_of (get_or (set es at x) n d) ≡ hi_of (get_or es n d)) is (ap hi_of (get_or-set_same es at x d h) ∙ same)
      | inr other ↦ ap hi_of (get_or-set_other es at last x d (λ e. other (sym e)))
    ] in
    end_at (set es at x) 0 d (omega arith)
    ∙ ap (λ n. hi_of (get_or (set es at x) (n - 1) d)) long
    ∙ read
    ∙ sym (end_at es 0 d (omega arith))
