-- The first gap of a set, and the numbers after it.
use Rattle.list_diff.proofs.Common.{◌+◌, ◌-◌, ◌<◌, ◌≡◌, ◌≤◌, ◌↔◌, ◌⊎◌, arith, cases_lt, Covers, inl, inr}
use Rattle.list_diff.proofs.Common.{IsFirst, IsUpTo, List, LostBetween, LostFrom, None, Option, Some}
use Rattle.list_diff.proofs.Common.{Span, ℕ}
use Rattle.std.specs.Prelude.{IfSome, MatchOption}

up_to : (lo begin : ℕ) (last : Option ℕ) → MatchOption last (begin ≤ lo) (λ last. (lo ≤ last) × (last + 1 ≡ begin)) → (s : ℕ)
    → IsUpTo lo last s ↔ ((lo ≤ s) × (s < begin))
up_to lo begin None is s = (λ h. absurd h, λ h. omega (arith, is, h.0, h.1))
up_to lo begin (Some last) is s = (λ h. (h.0, omega (arith, h.1, is.1)), λ h. (h.0, omega (arith, h.1, is.1)))

from_next : (end hi : ℕ) (others : List Span) (next : Option ℕ) → MatchOption next (hi ≤ end) (λ next. (next ≡ end + 1) × (next ≤ hi)) → (s : ℕ)
    → LostFrom next hi others s ↔ (((end < s) × (s ≤ hi)) × (Covers others s → ⊥))
from_next end hi others None is s = (λ h. absurd h, λ h. omega (arith, is, h.0.0, h.0.1))
from_next end hi others (Some next) is s = (
  λ h. ((omega (arith, h.0.0, is.0), h.0.1), h.1),
  λ h. ((omega (arith, h.0.0, is.0), h.0.1), h.1),
)

-- the numbers before the first run of members, and those after it
pub gap_parts : (lo hi : ℕ) (others : List Span) (run : Span) (last next : Option ℕ) → IsFirst others lo run → run.lo ≤ hi
    → MatchOption last (run.lo ≤ lo) (λ last. (lo ≤ last) × (last + 1 ≡ run.lo))
    → MatchOption next (hi ≤ run.hi) (λ next. (next ≡ run.hi + 1) × (next ≤ hi)) → (s : ℕ)
    → LostBetween lo hi others s ↔ (IsUpTo lo last s ⊎ LostFrom next hi others s)
gap_parts lo hi others run last next first meets last_is next_is s = (
  λ h. elim (cases_lt s run.lo) [
    | inl below ↦ inl ((up_to lo run.lo last last_is s).1 (h.0.0, below))
    | inr above ↦ elim (cases_lt run.hi s) [
      | inl past ↦ inr ((from_next run.hi hi others next next_is s).1 ((past, h.0.1), h.1))
      | inr within ↦ absurd (h.1 (first.covered s above within))
    ]
  ],
  λ h. elim h [
    | inl up ↦ (
        let is = (up_to lo run.lo last last_is s).0 up in
        ((is.0, omega (arith, is.1, meets)), first.before s is.0 is.1)
        )
    | inr rest ↦ (
        let is = (from_next run.hi hi others next next_is s).0 rest in
        ((omega (arith, is.0.0, first.some, first.from), is.0.1), is.1)
        )
  ],
)

-- how many numbers are left from where a search continues
abbrev pub numbers_left : Option ℕ → (last : ℕ) → ℕ
numbers_left None last = 0
numbers_left (Some next) last = last + 1 - next

pub numbers_less : (next : Option ℕ) (lo hi : ℕ) → lo ≤ hi → IfSome next (λ n. (lo < n) × (n ≤ hi)) → numbers_left next hi < numbers_left (Some lo) hi
numbers_less None lo hi le rises = omega arith
numbers_less (Some n) lo hi le rises = omega (arith, rises.0, rises.1)

pub range_more : (next : Option ℕ) (lo hi : ℕ) → IfSome next (λ n. (lo < n) × (n ≤ hi)) → IfSome next (λ n. (0 < n) × (n ≤ hi))
range_more None lo hi rises = tt
range_more (Some n) lo hi rises = (omega (arith, rises.0), rises.1)

-- ---- where the gap ends, and where the search continues

pub last_some : (last : Option ℕ) (lo begin : ℕ) → MatchOption last (begin ≤ lo) (λ last. (lo ≤ last) × (last + 1 ≡ begin)) → IfSome last (λ last. lo ≤ last)
last_some None lo begin is = tt
last_some (Some last) lo begin is = is.0

pub next_rises : (next : Option ℕ) (lo end hi : ℕ) → lo ≤ end → MatchOption next (hi ≤ end) (λ next. (next ≡ end + 1) × (next ≤ hi)) → IfSome next (λ next. (lo < next) × (next ≤ hi))
next_rises None lo end hi le is = tt
next_rises (Some next) lo end hi le is = (omega (arith, is.0, le), is.1)
