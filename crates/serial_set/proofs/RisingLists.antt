-- Rising lists of spans: their members, and how they are split and joined.
use Rattle.serial_set.proofs.Common.{[], ⊎_elim, ◌&&◌, ◌++◌, ◌+◌, ◌-◌, ◌<◌, ◌↔◌, ◌∷◌, ◌≤◌, ◌⊎◌, All}
use Rattle.serial_set.proofs.Common.{All-cons, All-head, All-nil, All-tail, arith, Covers, Decides}
use Rattle.serial_set.proofs.Common.{Decides-and, Decides-or, get_or, has, inl, inr, le-leb, leb}
use Rattle.serial_set.proofs.Common.{leb-true, length, List, RunsFrom, Span, suc, zero, ℕ}
use Rattle.std.specs.List.Sorted.{IsNonDecreasingBy}

pub names_append : (xs ys : List Span) (s : ℕ) → Covers (xs ++ ys) s → Covers xs s ⊎ Covers ys s
names_append [] ys s n = inr n
names_append (x ∷ xs) ys s n =
    elim n [
      | inl here ↦ inl (inl here)
      | inr later ↦ elim (names_append xs ys s later) [ inl l ↦ inl (inr l) | inr r ↦ inr r ]
    ]

pub names_left : (xs ys : List Span) (s : ℕ) → Covers xs s → Covers (xs ++ ys) s
names_left [] ys s n = absurd n
names_left (x ∷ xs) ys s n =
    elim n [ inl here ↦ inl here | inr later ↦ inr (names_left xs ys s later) ]

pub names_right : (xs ys : List Span) (s : ℕ) → Covers ys s → Covers (xs ++ ys) s
names_right [] ys s n = n
names_right (x ∷ xs) ys s n = inr (names_right xs ys s n)

pub covers_append : (xs ys : List Span) (s : ℕ) → Covers (xs ++ ys) s ↔ (Covers xs s ⊎ Covers ys s)
covers_append xs ys s = (names_append xs ys s, ⊎_elim (names_left xs ys s) (names_right xs ys s))

pub has_names : (xs : List Span) (s : ℕ) → Decides (has xs s) (Covers xs s)
has_names [] s = (λ yes. absurd cc, λ no. absurd no)
has_names (x ∷ xs) s =
    Decides-or (leb x.lo s && leb s x.hi) (has xs s)
    (Decides-and (leb x.lo s) (leb s x.hi) (leb-true x.lo s, le-leb x.lo s)
    (leb-true s x.hi, le-leb s x.hi))
    (has_names xs s)

pub RunsFrom-weaker : (a b : ℕ) (xs : List Span) → b ≤ a → RunsFrom a xs → RunsFrom b xs
RunsFrom-weaker a b [] h r = tt
RunsFrom-weaker a b (x ∷ xs) h r = (omega arith, r.1, r.2)

-- a member is at least the number from which the list may begin
pub names_from : (a : ℕ) (xs : List Span) (s : ℕ) → RunsFrom a xs → Covers xs s → a ≤ s
names_from a [] s r n = absurd n
names_from a (x ∷ xs) s r n =
    elim n [
      | inl here ↦ omega arith
      | inr later ↦ omega (arith, names_from (x.hi + 2) xs s r.2 later)
    ]

pub runs_front : (a : ℕ) (xs ys : List Span) → RunsFrom a (xs ++ ys) → RunsFrom a xs
runs_front a [] ys r = tt
runs_front a (x ∷ xs) ys r = (r.0, r.1, runs_front (x.hi + 2) xs ys r.2)

-- a later span is past that number
pub runs_reach : (a : ℕ) (xs : List Span) (y : Span) (ys : List Span) → RunsFrom a (xs ++ y ∷ ys)
    → a ≤ y.lo
runs_reach a [] y ys r = r.0
runs_reach a (x ∷ xs) y ys r = omega (arith, runs_reach (x.hi + 2) xs y ys r.2)

pub runs_middle : (a : ℕ) (xs : List Span) (y : Span) (ys : List Span) → RunsFrom a (xs ++ y ∷ ys)
    → (y.lo ≤ y.hi) × RunsFrom (y.hi + 2) ys
runs_middle a [] y ys r = (r.1, r.2)
runs_middle a (x ∷ xs) y ys r = runs_middle (x.hi + 2) xs y ys r.2

-- each earlier span ends at least two below a later one
pub runs_apart : (a : ℕ) (xs : List Span) (y : Span) (ys : List Span) → RunsFrom a (xs ++ y ∷ ys)
    → All (λ t. t.hi + 2 ≤ y.lo) xs
runs_apart a [] y ys r = All-nil (λ t. t.hi + 2 ≤ y.lo)
runs_apart a (x ∷ xs) y ys r =
    All-cons (λ t. t.hi + 2 ≤ y.lo) x xs (runs_reach (x.hi + 2) xs y ys r.2)
    (runs_apart (x.hi + 2) xs y ys r.2)

-- two lists joined: the first ends two below the number from which the second rises
pub runs_join : (a b : ℕ) (xs ys : List Span) → a ≤ b → RunsFrom a xs → All (λ t. t.hi + 2 ≤ b) xs
    → RunsFrom b ys → RunsFrom a (xs ++ ys)
runs_join a b [] ys h r below s = RunsFrom-weaker b a ys h s
runs_join a b (x ∷ xs) ys h r below s =
    let head = All-head (λ t. t.hi + 2 ≤ b) x xs below in
    let tail = All-tail (λ t. t.hi + 2 ≤ b) x xs below in
    (r.0, r.1, runs_join (x.hi + 2) b xs ys head r.2 tail s)

-- ---- by positions

pub runs_at : (a : ℕ) (xs : List Span) (i : ℕ) (d : Span) → RunsFrom a xs → i < length xs
    → (a ≤ (get_or xs i d).lo) × ((get_or xs i d).lo ≤ (get_or xs i d).hi)
runs_at a [] i d r h = absurd (omega arith)
runs_at a (x ∷ xs) zero d r h = (r.0, r.1)
runs_at a (x ∷ xs) (suc i) d r h =
    let rest = runs_at (x.hi + 2) xs i d r.2 (omega arith) in (omega arith, rest.1)

pub ends_rise : (a : ℕ) (xs : List Span) → RunsFrom a xs → IsNonDecreasingBy (λ t. t.hi) xs
ends_rise a [] r i j d h k = absurd (omega arith)
ends_rise a (x ∷ xs) r zero zero d h k = omega arith
ends_rise a (x ∷ xs) r zero (suc j) d h k =
    let later = runs_at (x.hi + 2) xs j d r.2 (omega arith) in omega arith
ends_rise a (x ∷ xs) r (suc i) zero d h k = absurd (omega arith)
ends_rise a (x ∷ xs) r (suc i) (suc j) d h k =
    ends_rise (x.hi + 2) xs r.2 i j d (omega arith) (omega arith)

pub starts_rise : (a : ℕ) (xs : List Span) → RunsFrom a xs → IsNonDecreasingBy (λ t. t.lo - 1) xs
starts_rise a [] r i j d h k = absurd (omega arith)
starts_rise a (x ∷ xs) r zero zero d h k = omega arith
starts_rise a (x ∷ xs) r zero (suc j) d h k =
    let later = runs_at (x.hi + 2) xs j d r.2 (omega arith) in omega arith
starts_rise a (x ∷ xs) r (suc i) zero d h k = absurd (omega arith)
starts_rise a (x ∷ xs) r (suc i) (suc j) d h k =
    starts_rise (x.hi + 2) xs r.2 i j d (omega arith) (omega arith)

pub names_at : (a : ℕ) (xs : List Span) (i : ℕ) (d : Span) → RunsFrom a xs → i < length xs
    → Covers xs (get_or xs i d).lo
names_at a [] i d r h = absurd (omega arith)
names_at a (x ∷ xs) zero d r h = inl (omega arith, r.1)
names_at a (x ∷ xs) (suc i) d r h = inr (names_at (x.hi + 2) xs i d r.2 (omega arith))
