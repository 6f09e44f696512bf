-- A search in a set that moves forward.
use Rattle.list_diff.proofs.Common.{[], ◌+◌, ◌<◌, ◌∷◌, ◌≡◌, ◌≤◌, ◌↔◌, arith, Covers, drop}
use Rattle.list_diff.proofs.Common.{Follows, get_or, inl, inr, IsFirst, IsFirstFrom, IsRuns, length}
use Rattle.list_diff.proofs.Common.{List, max, Option, RunsFrom, Some, Span, subst}
use Rattle.list_diff.proofs.Common.{suc, sym, take, zero, ℕ, ap}
use Rattle.serial_set.proofs.RisingLists.{names_from, RunsFrom-weaker}
use Rattle.serial_set.proofs.RunIteration.{since_from, since_runs, since_to}
use Rattle.serial_set.specs.Iteration.{IsPiece, since}
use Rattle.std.proofs.Common.{add-one, drop-cons}
use Rattle.std.specs.List.{slice_get}

-- the runs from a number on are those from a later one on, if none ends before that
pub follows_later : (spans runs : List Span) (n m : ℕ) → n ≤ m → Follows spans n runs → Follows spans m runs
follows_later spans [] n m le f = tt
follows_later spans (run ∷ runs) n m le f = (λ s low below. f.0 s (omega (arith, le, low)) below, f.1, f.2, f.3)

-- a run that ends before a number is skipped
pub follows_skip : (spans runs rest : List Span) (run : Span) (n m : ℕ) → runs ≡ run ∷ rest → run.hi < m → Follows spans n runs → Follows spans m rest
follows_skip spans runs rest run n m is past f =
    let g = subst (Follows spans n) is f in
    follows_later spans rest (run.hi + 1) m (omega (arith, past)) g.3

-- the first of them, from the number on
pub first_of_runs : (spans runs rest : List Span) (run : Span) (n lo : ℕ) → runs ≡ run ∷ rest → n ≤ run.hi → lo ≡ max run.lo n → Follows spans n runs
    → IsFirst spans n (record { lo = lo; hi = run.hi })
first_of_runs spans runs rest run n lo is ends low f =
    let g = subst (Follows spans n) is f in
    let some : run.lo ≤ run.hi = g.1 in
    record {
      from = omega (arith, low);
      some = omega (arith, low, ends, some);
      before = λ s from below. g.0 s from (omega (arith, low, from, below));
      covered = λ s from to. g.2 s (omega (arith, low, from)) to;
    }

-- ---- a piece of a set

runs_follow : (spans xs : List Span) (n k : ℕ) → RunsFrom n xs → ((s : ℕ) → n ≤ s → Covers spans s ↔ Covers xs s) → Follows spans n (take k xs)
runs_follow spans xs n zero r same = tt
runs_follow spans [] n (suc k) r same = tt
runs_follow spans (x ∷ xs) n (suc k) r same = (
  λ s low below h. elim ((same s low).0 h) [
    | inl here ↦ omega (arith, here.0, below)
    | inr later ↦ omega (arith, names_from (x.hi + 2) xs s r.2 later, below, r.1)
  ],
  r.1,
  λ s low high. (same s (omega (arith, low, r.0))).1 (inl (low, high)),
  runs_follow spans xs (x.hi + 1) k (RunsFrom-weaker (x.hi + 2) (x.hi + 1) xs (omega arith) r.2) (λ s low. (
    λ h. elim ((same s (omega (arith, low, r.0, r.1))).0 h) [
      | inl here ↦ absurd (omega (arith, here.1, low))
      | inr later ↦ later
    ],
    λ h. (same s (omega (arith, low, r.0, r.1))).1 (inr h),
  )),
)

same_since : (spans : List Span) (n : ℕ) → IsRuns spans → (s : ℕ) → n ≤ s → Covers spans s ↔ Covers (since n spans) s
same_since spans n r s low = (λ h. since_from 0 n spans s r h low, λ h. (since_to 0 n spans s r h).0)

from_number : (spans : List Span) (n : ℕ) → IsRuns spans → RunsFrom n (since n spans)
from_number spans n r = RunsFrom-weaker (max 0 n) n (since n spans) (omega arith) (since_runs 0 n spans r)

pub piece_follows : (spans piece : List Span) (n : ℕ) → IsRuns spans → IsPiece spans n piece → Follows spans n piece
piece_follows spans piece n r p =
    subst (Follows spans n) (sym p.front) (runs_follow spans (since n spans) n (length piece) (from_number spans n r) (same_since spans n r))

take_runs : (n k : ℕ) (xs : List Span) → RunsFrom n xs → RunsFrom n (take k xs)
take_runs n zero xs r = tt
take_runs n (suc k) [] r = tt
take_runs n (suc k) (x ∷ xs) r = (r.0, r.1, take_runs (x.hi + 2) k xs r.2)

no_member : (xs : List Span) → (0 < length xs → ⊥) → (s : ℕ) → Covers xs s → ⊥
no_member [] none s h = h
no_member (x ∷ xs) none s h = absurd (none (omega arith))

-- the first run of a piece is that of all members from the number on
pub piece_first : (spans piece : List Span) (n : ℕ) (first : Option Span) → IsRuns spans → IsPiece spans n piece → first ≡ slice_get piece 0 → IsFirstFrom spans n first
piece_first spans [] n first r p is =
    subst (IsFirstFrom spans n) (sym is) (λ s low h. no_member (since n spans) (λ some. omega (arith, p.some some)) s ((same_since spans n r s low).0 h))
piece_first spans (x ∷ xs) n first r p is =
    let runs : RunsFrom n (x ∷ xs) = subst (RunsFrom n) (sym p.front) (take_runs n (length (x ∷ xs)) (since n spans) (from_number spans n r)) in
    let f = piece_follows spans (x ∷ xs) n r p in
    subst (IsFirstFrom spans n) (sym is) (record { from = runs.0; some = runs.1; before = f.0; covered = f.2 })

-- ---- runs from an index on

pub run_at : (runs : List Span) (i : ℕ) (d : Span) → i < length runs → drop i runs ≡ get_or runs i d ∷ drop (i + 1) runs
run_at runs i d lt = rw add-one (drop-cons runs i d lt)

-- the run at an index is the first of those from there on
pub run_got : (runs : List Span) (i : ℕ) (run : Span) → slice_get runs i ≡ Some run → drop i runs ≡ run ∷ drop (suc i) runs
run_got [] i run is = absurd cc
run_got (x ∷ xs) zero run is = ap (λ (y : Span). y ∷ xs) (same_some is)
  where
    same_some : Some x ≡ Some run → x ≡ run
    same_some e = cc
run_got (x ∷ xs) (suc i) run is = run_got xs i run is
