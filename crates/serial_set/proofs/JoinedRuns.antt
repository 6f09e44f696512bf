-- Spans that rise and may touch: their runs have the same members.
use Rattle.serial_set.proofs.Common.{[], ◌++◌, ◌+◌, ◌<◌, ◌∷◌, ◌≤◌, ◌⊎◌, arith, Bool, cases_lt}
use Rattle.serial_set.proofs.Common.{Covers, eqb_tells, inl, inr, IsRunsOf, List, RunsFrom, Span}
use Rattle.serial_set.proofs.Common.{SpanCovers, subst, sym, ℕ}
use Rattle.serial_set.specs.Joined.{Rises, glued_by, glued, joined}

glued_runs : (a : ℕ) (x : Span) (ys : List Span) → a ≤ x.lo → x.lo ≤ x.hi
    → RunsFrom (x.hi + 1) ys → RunsFrom a (glued x ys)
glued_runs a x [] h k r = (h, k, tt)
glued_runs a x (y ∷ ys) h k r =
    let P : Bool → Type 0 = λ v. RunsFrom a (glued_by v x y ys) in
    elim (eqb_tells (x.hi + 1) y.lo) [
      | inl same ↦ subst P (sym same.0) (h, omega arith, r.2)
      | inr other ↦ subst P (sym other.0) (h, k, (omega arith, r.1, r.2))
    ]

-- the members of the glued spans are in one of them
glued_to : (x : Span) (ys : List Span) (s : ℕ) → Covers (glued x ys) s
    → SpanCovers x s ⊎ Covers ys s
glued_to x [] s n = n
glued_to x (y ∷ ys) s n =
    let P : Bool → Type 0 =
    λ v. Covers (glued_by v x y ys) s → SpanCovers x s ⊎ Covers (y ∷ ys) s in
    elim (eqb_tells (x.hi + 1) y.lo) [
      | inl same ↦ subst P (sym same.0) (λ m. elim m [
        | inl here ↦ elim (cases_lt x.hi s) [
          | inl past ↦ inr (inl (omega arith, here.1))
          | inr upto ↦ inl (here.0, upto)
        ]
        | inr later ↦ inr (inr later)
      ]) n
      | inr other ↦ subst P (sym other.0) (λ m. m) n
    ]

glued_from : (x : Span) (ys : List Span) (s : ℕ) → x.lo ≤ x.hi → RunsFrom (x.hi + 1) ys
    → SpanCovers x s ⊎ Covers ys s → Covers (glued x ys) s
glued_from x [] s k r n = n
glued_from x (y ∷ ys) s k r n =
    let P : Bool → Type 0 = λ v. Covers (glued_by v x y ys) s in
    elim (eqb_tells (x.hi + 1) y.lo) [
      | inl same ↦ subst P (sym same.0) (elim n [
        | inl here ↦ inl (here.0, omega arith)
        | inr rest ↦ elim rest [ inl next ↦ inl (omega arith, next.1) | inr later ↦ inr later ]
      ])
      | inr other ↦ subst P (sym other.0) n
    ]

joined_runs : (a : ℕ) (xs : List Span) → Rises a xs → RunsFrom a (joined xs)
joined_runs a [] r = tt
joined_runs a (x ∷ xs) r = glued_runs a x (joined xs) r.0 r.1 (joined_runs (x.hi + 1) xs r.2)

joined_to : (xs : List Span) (s : ℕ) → Covers (joined xs) s → Covers xs s
joined_to [] s n = n
joined_to (x ∷ xs) s n =
    elim (glued_to x (joined xs) s n) [
      | inl here ↦ inl here
      | inr later ↦ inr (joined_to xs s later)
    ]

joined_from : (a : ℕ) (xs : List Span) (s : ℕ) → Rises a xs → Covers xs s → Covers (joined xs) s
joined_from a [] s r n = n
joined_from a (x ∷ xs) s r n =
    let rest = joined_runs (x.hi + 1) xs r.2 in
    elim n [
      | inl here ↦ glued_from x (joined xs) s r.1 rest (inl here)
      | inr later ↦
          glued_from x (joined xs) s r.1 rest (inr (joined_from (x.hi + 1) xs s r.2 later))
    ]

-- joining does not change the members
pub joined_of : (xs : List Span) → Rises 0 xs → IsRunsOf (joined xs) (λ s. Covers xs s)
joined_of xs r = (joined_runs 0 xs r, λ s. (joined_to xs s, joined_from 0 xs s r))

pub Rises-weaker : (a b : ℕ) (xs : List Span) → b ≤ a → Rises a xs → Rises b xs
Rises-weaker a b [] h r = tt
Rises-weaker a b (x ∷ xs) h r = (omega arith, r.1, r.2)

pub Rises-join : (a b : ℕ) (xs ys : List Span) → a ≤ b → Rises a xs
    → ((s : ℕ) → Covers xs s → s < b) → Rises b ys → Rises a (xs ++ ys)
Rises-join a b [] ys h r below t = Rises-weaker b a ys h t
Rises-join a b (x ∷ xs) ys h r below t =
    let end : x.hi < b = below x.hi (inl (r.1, omega arith)) in
    (r.0, r.1, Rises-join (x.hi + 1) b xs ys (omega arith) r.2 (λ s n. below s (inr n)) t)
