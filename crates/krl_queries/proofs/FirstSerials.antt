-- The first number that is asked about.
use Rattle.krl_queries.proofs.Common.{[], ◌+◌, ◌<◌, ◌↔◌, ◌∷◌, ◌≡◌, ◌≤◌, arith, Covers, eqb, false}
use Rattle.krl_queries.proofs.Common.{get_or, inl, inr, IsFirst, IsRuns, length, List, max}
use Rattle.krl_queries.proofs.Common.{names_from, None, Option, refl, RunsFrom, Some, Span, subst}
use Rattle.krl_queries.proofs.Common.{suc, sym, take, zero, ℕ}
use Rattle.serial_set.specs.Iteration.{IsPiece, since}
use Rattle.serial_set.proofs.RunIteration.{since_from, since_runs, since_to}

-- properties of the same numbers have the same first number
pub first_as : (Member Other : ℕ → Type 0) (lo hi : ℕ) (first : Option ℕ) → ((s : ℕ) → Other s ↔ Member s) → IsFirst Member lo hi first → IsFirst Other lo hi first
first_as Member Other lo hi None same h = λ s low high is. h s low high ((same s).0 is)
first_as Member Other lo hi (Some first) same h = (h.0, h.1, (same first).1 h.2, λ s low below is. h.3 s low below ((same s).0 is))

-- ---- the first run of a piece

empty_since : (spans piece : List Span) (n : ℕ) → IsPiece spans n piece → length piece ≡ 0 → (s : ℕ) → Covers (since n spans) s → ⊥
empty_since spans piece n p none s h = no_member (since n spans) (λ some. absurd (omega (arith, p.some some))) s h
  where
    no_member : (xs : List Span) → (0 < length xs → ⊥) → (s : ℕ) → Covers xs s → ⊥
    no_member [] none_in s h = h
    no_member (x ∷ xs) none_in s h = absurd (none_in (omega arith))

-- the first run that is left begins with the first member
first_since : (spans : List Span) (x : Span) (xs : List Span) (n : ℕ) → IsRuns spans → since n spans ≡ x ∷ xs
    → (n ≤ x.lo) × Covers spans x.lo × ((s : ℕ) → n ≤ s → s < x.lo → Covers spans s → ⊥)
first_since spans x xs n runs is =
    let from = subst (RunsFrom (max 0 n)) is (since_runs 0 n spans runs) in
    let here : Covers (since n spans) x.lo = subst (λ (l : List Span). Covers l x.lo) (sym is) (inl (omega arith, from.1)) in
    let there = since_to 0 n spans x.lo runs here in
    (there.1, there.0, λ s low below h. absurd (before s below (subst (λ (l : List Span). Covers l s) is (since_from 0 n spans s runs h low)) from))
  where
    before : (s : ℕ) → s < x.lo → Covers (x ∷ xs) s → RunsFrom (max 0 n) (x ∷ xs) → ⊥
    before s below (inl h) from = omega (arith, h.0)
    before s below (inr h) from = omega (arith, names_from (x.hi + 2) xs s from.2 h)

pub none_from : (spans piece : List Span) (lo hi : ℕ) → IsRuns spans → IsPiece spans lo piece → length piece ≡ 0 → (s : ℕ) → lo ≤ s → s ≤ hi → Covers spans s → ⊥
none_from spans piece lo hi runs p none s low high h = empty_since spans piece lo p none s (since_from 0 lo spans s runs h low)

pub some_from : (spans piece : List Span) (lo : ℕ) (d : Span) → IsRuns spans → IsPiece spans lo piece → 0 < length piece
    → (lo ≤ (get_or piece 0 d).lo) × Covers spans (get_or piece 0 d).lo × ((s : ℕ) → lo ≤ s → s < (get_or piece 0 d).lo → Covers spans s → ⊥)
some_from spans [] lo d runs p some = absurd (omega arith)
some_from spans (x ∷ xs) lo d runs p some = split (since lo spans) refl p.front
  where
    split : (rest : List Span) → since lo spans ≡ rest → x ∷ xs ≡ take (length (x ∷ xs)) (since lo spans)
        → (lo ≤ x.lo) × Covers spans x.lo × ((s : ℕ) → lo ≤ s → s < x.lo → Covers spans s → ⊥)
    split [] is front = absurd (cc (front, is))
    split (y ∷ ys) is front =
        let same : x ∷ xs ≡ y ∷ take (length xs) ys = subst (λ (l : List Span). x ∷ xs ≡ take (length (x ∷ xs)) l) is front in
        let first : y ≡ x = cc in
        first_since spans x ys lo runs (subst (λ (z : Span). since lo spans ≡ z ∷ ys) first is)

pub not_none : (n : ℕ) → eqb n 0 ≡ false → 0 < n
not_none zero off = absurd (cc)
not_none (suc n) off = omega arith
