-- How many intervals the numbers of one set have that another set does not have.
use Rattle.list_diff.proofs.Common.{[], ◌++◌, ◌+◌, ◌-◌, ◌<◌, ◌∷◌, ◌≤◌, ◌↔◌, ◌⊎◌, arith, Covers, inl}
use Rattle.list_diff.proofs.Common.{inr, IsRuns, length, List, max, RunsFrom, Span, subst, sym, ℕ}
use Rattle.serial_set.proofs.LeastLists.{runs_least}
use Rattle.serial_set.proofs.RisingLists.{covers_append, names_from, RunsFrom-weaker}
use Rattle.serial_set.proofs.RunIteration.{since_from, since_runs, since_to}
use Rattle.serial_set.specs.Iteration.{since, since_by}
use Rattle.std.proofs.Common.{Bool, false, length-append, min, true}
use Rattle.std.proofs.lemmas.Bool.Decides.{leb_tells}
use Rattle.std.specs.Prelude.{nat_le}
use Rattle.std.proofs.Math.Logic.Iff as Iff

-- ---- the numbers below a number

abbrev front_by : Bool → ℕ → Span → List Span → List Span
front_by true n x rest = []
front_by false n x rest = record { lo = x.lo; hi = min x.hi (n - 1) } ∷ rest

abbrev front : ℕ → List Span → List Span
front n [] = []
front n (x ∷ xs) = front_by (nat_le n x.lo) n x (front n xs)

front_covers : (a n : ℕ) (xs : List Span) (s : ℕ) → RunsFrom a xs → Covers (front n xs) s ↔ (Covers xs s × (s < n))
front_covers a n [] s r = (λ h. absurd h, λ h. absurd h.0)
front_covers a n (x ∷ xs) s r =
    let P : Bool → Type 0 = λ v. Covers (front_by v n x (front n xs)) s ↔ (Covers (x ∷ xs) s × (s < n)) in
    let later = front_covers (x.hi + 2) n xs s r.2 in
    elim (leb_tells n x.lo) [
      | inl past ↦ subst P (sym past.0) (
        λ h. absurd h,
        λ h. elim h.0 [
          | inl here ↦ omega (arith, here.0, h.1, past.1)
          | inr after ↦ omega (arith, names_from (x.hi + 2) xs s r.2 after, h.1, past.1, r.1)
        ],
      )
      | inr before ↦ subst P (sym before.0) (
        λ h. elim h [
          | inl here ↦ (inl (here.0, omega (arith, here.1)), omega (arith, here.1, before.1))
          | inr after ↦ (let is = later.0 after in (inr is.0, is.1))
        ],
        λ h. elim h.0 [
          | inl here ↦ inl (here.0, omega (arith, here.1, h.1))
          | inr after ↦ inr (later.1 (after, h.1))
        ],
      )
    ]

front_runs : (a n : ℕ) (xs : List Span) → RunsFrom a xs → RunsFrom a (front n xs)
front_runs a n [] r = tt
front_runs a n (x ∷ xs) r =
    let P : Bool → Type 0 = λ v. RunsFrom a (front_by v n x (front n xs)) in
    elim (leb_tells n x.lo) [
      | inl past ↦ subst P (sym past.0) tt
      | inr before ↦ subst P (sym before.0) (r.0, omega (arith, r.1, before.1), RunsFrom-weaker (x.hi + 2) (min x.hi (n - 1) + 2) (front n xs) (omega arith) (front_runs (x.hi + 2) n xs r.2))
    ]

front_none : (a n : ℕ) (xs : List Span) → RunsFrom a xs → n ≤ a → length (front n xs) ≤ 0
front_none a n [] r le = omega arith
front_none a n (x ∷ xs) r le =
    let P : Bool → Type 0 = λ v. length (front_by v n x (front n xs)) ≤ 0 in
    elim (leb_tells n x.lo) [
      | inl past ↦ subst P (sym past.0) (omega arith)
      | inr before ↦ absurd (omega (arith, before.1, r.0, le))
    ]

since_few : (n : ℕ) (xs : List Span) → length (since n xs) ≤ length xs
since_few n [] = omega arith
since_few n (x ∷ xs) =
    let P : Bool → Type 0 = λ v. length (since_by v n x xs (since n xs)) ≤ length (x ∷ xs) in
    elim (leb_tells n x.hi) [
      | inl goes ↦ subst P (sym goes.0) (omega arith)
      | inr ends ↦ subst P (sym ends.0) (omega (arith, since_few n xs))
    ]

-- at most one interval lies on both sides of an interval
both_sides : (a lo hi : ℕ) (xs : List Span) → RunsFrom a xs → lo ≤ hi → length (front lo xs) + length (since (hi + 1) xs) ≤ length xs + 1
both_sides a lo hi [] r le = omega arith
both_sides a lo hi (x ∷ xs) r le =
    let F : Bool → Bool → Type 0 = λ v w. length (front_by v lo x (front lo xs)) + length (since_by w (hi + 1) x xs (since (hi + 1) xs)) ≤ length (x ∷ xs) + 1 in
    elim (leb_tells lo x.lo) [
      | inl past ↦ subst (λ v. F v (nat_le (hi + 1) x.hi)) (sym past.0) (omega (arith, since_few (hi + 1) (x ∷ xs)))
      | inr before ↦ subst (λ v. F v (nat_le (hi + 1) x.hi)) (sym before.0) (elim (leb_tells (hi + 1) x.hi) [
        | inl goes ↦ subst (F false) (sym goes.0) (omega (arith, front_none (x.hi + 2) lo xs r.2 (omega (arith, goes.1, le))))
        | inr ends ↦ subst (F false) (sym ends.0) (omega (arith, both_sides (x.hi + 2) lo hi xs r.2 le))
      ])
    ]

-- ---- without one interval, and without several

abbrev cut : Span → List Span → List Span
cut other xs = front other.lo xs ++ since (other.hi + 1) xs

cut_covers : (other : Span) (xs : List Span) (s : ℕ) → IsRuns xs → Covers (cut other xs) s ↔ (Covers xs s × ((s < other.lo) ⊎ (other.hi < s)))
cut_covers other xs s r = Iff.trans (covers_append (front other.lo xs) (since (other.hi + 1) xs) s) (
  λ h. elim h [
    | inl low ↦ (let is = (front_covers 0 other.lo xs s r).0 low in (is.0, inl is.1))
    | inr high ↦ (let is = since_to 0 (other.hi + 1) xs s r high in (is.0, inr (omega (arith, is.1))))
  ],
  λ h. elim h.1 [
    | inl low ↦ inl ((front_covers 0 other.lo xs s r).1 (h.0, low))
    | inr high ↦ inr (since_from 0 (other.hi + 1) xs s r h.0 (omega (arith, high)))
  ],
)

-- runs below a number, and then runs from two past it on
joined_runs : (a n m : ℕ) (xs ys : List Span) → RunsFrom a (front n xs) → a ≤ m → n < m → RunsFrom m ys → RunsFrom a (front n xs ++ ys)
joined_runs a n m [] ys r le lt s = RunsFrom-weaker m a ys le s
joined_runs a n m (x ∷ xs) ys r le lt s =
    let P : Bool → Type 0 = λ v. RunsFrom a (front_by v n x (front n xs)) → RunsFrom a (front_by v n x (front n xs) ++ ys) in
    elim (leb_tells n x.lo) [
      | inl past ↦ subst P (sym past.0) (λ q. RunsFrom-weaker m a ys le s) r
      | inr before ↦ subst P (sym before.0) (λ q. (q.0, q.1, joined_runs (min x.hi (n - 1) + 2) n m xs ys q.2 (omega (arith, before.1, lt)) lt s)) r
    ]

cut_runs : (other : Span) (xs : List Span) → IsRuns xs → other.lo ≤ other.hi → IsRuns (cut other xs)
cut_runs other xs r le =
    joined_runs 0 other.lo (other.hi + 1) xs (since (other.hi + 1) xs) (front_runs 0 other.lo xs r) (omega arith) (omega (arith, le))
    (RunsFrom-weaker (max 0 (other.hi + 1)) (other.hi + 1) (since (other.hi + 1) xs) (omega arith) (since_runs 0 (other.hi + 1) xs r))

abbrev without : List Span → List Span → List Span
without xs [] = xs
without xs (other ∷ others) = without (cut other xs) others

without_covers : (b : ℕ) (xs others : List Span) (s : ℕ) → IsRuns xs → RunsFrom b others → Covers (without xs others) s ↔ (Covers xs s × (Covers others s → ⊥))
without_covers b xs [] s r o = (λ h. (h, λ held. held), λ h. h.0)
without_covers b xs (other ∷ others) s r o =
    let rest = without_covers (other.hi + 2) (cut other xs) others s (cut_runs other xs r o.1) o.2 in
    let first = cut_covers other xs s r in (
      λ h.
          let is = rest.0 h in
          let from = first.0 is.0 in (
            from.0,
            λ held. elim held [
              | inl here ↦ elim from.1 [ inl low ↦ omega (arith, low, here.0) | inr high ↦ omega (arith, high, here.1) ]
              | inr later ↦ is.1 later
            ],
          ),
      λ h. rest.1 (first.1 (h.0, outside other s (λ here. h.1 (inl here))), λ later. h.1 (inr later)),
    )
  where
    outside : (other : Span) (s : ℕ) → ((other.lo ≤ s) × (s ≤ other.hi) → ⊥) → (s < other.lo) ⊎ (other.hi < s)
    outside other s not =
        elim (leb_tells other.lo s) [
          | inr below ↦ inl below.1
          | inl from ↦ elim (leb_tells s other.hi) [ inr past ↦ inr past.1 | inl to ↦ absurd (not (from.1, to.1)) ]
        ]

without_few : (b : ℕ) (xs others : List Span) → IsRuns xs → RunsFrom b others → length (without xs others) ≤ length xs + length others
without_few b xs [] r o = omega arith
without_few b xs (other ∷ others) r o =
    omega (
      arith,
      without_few (other.hi + 2) (cut other xs) others (cut_runs other xs r o.1) o.2,
      length-append (front other.lo xs) (since (other.hi + 1) xs),
      both_sides 0 other.lo other.hi xs r o.1,
    )

-- one interval more for each interval of the other set
pub few_lost : (gone xs others : List Span) → IsRuns gone → IsRuns xs → IsRuns others → ((s : ℕ) → Covers gone s ↔ (Covers xs s × (Covers others s → ⊥)))
    → length gone ≤ length xs + length others
few_lost gone xs others g r o same =
    omega (
      arith,
      runs_least gone (without xs others) g (λ s. Iff.trans (same s) (Iff.symm (without_covers 0 xs others s r o))),
      without_few 0 xs others r o,
    )
