-- Facts that hold up to a position in a list, or from it on, as facts on the two parts.
use Rattle.std.proofs.Common.{Bor, ◌≡◌, Bool, true, false, ltb, ℕ, ◌+◌, ◌-◌, ◌<◌, ◌≤◌, ap}
use Rattle.std.proofs.Common.{get_or, List, length, take, drop, sym, subst, arith, length-drop}
use Rattle.std.proofs.Common.{length-take, All, ltb-true, ltb-false}
use Rattle.std.proofs.Common.{get_or-take, get_or-drop, length-take-le}
use denote.Param.Members.{Mut}
use Rattle.std.specs.Fn.{Called, ComputesKey}
use Rattle.std.specs.List.{AllWithin}
use Rattle.std.specs.List.Sorted.{IsNonDecreasingBy, IsPartitionedBy, IsPartitionPoint}
use Rattle.std.proofs.lemmas.List.Sorted.{IsPartitionPoint-from_clause, IsPartitionedBy-ltb}
use Rattle.std.proofs.lemmas.List.{get_or_default}

pub All-front : {X : Type 0} (P : X → Type 0) (xs : List X) (i : ℕ) → AllWithin P xs 0 i → All P (take i xs)
All-front P xs i h k d q =
    let bound = length-take i xs in
    let inside : k < i = omega arith in
    subst P (sym (get_or-take i xs k d inside)) (h k d (omega arith) inside)

pub All-back : {X : Type 0} (P : X → Type 0) (xs : List X) (i : ℕ) → AllWithin P xs i (length xs) → All P (drop i xs)
All-back P xs i h k d q =
    let bound = length-drop i xs in
    subst P (sym (get_or-drop i xs k d)) (h (i + k) d (omega arith) (omega arith))

-- in a rising list, elements below the number at a position are before the position, and others after it
pub rises_before : {X : Type 0} (f : X → ℕ) (xs : List X) (count n : ℕ) (d : X) → IsNonDecreasingBy f xs → 0 < count → count ≤ length xs → f (get_or xs (count - 1) d) < n → All (λ x. f x < n) (take count xs)
rises_before f xs count n d rise some within last = λ k e q.
    let inside : k < count = omega (arith, length-take-le count xs within) in
    let most = rise k (count - 1) e (omega arith) (omega arith) in
    let same = ap f (get_or-take count xs k e inside) in
    let read = ap f (get_or_default xs (count - 1) d e (omega arith)) in
    omega (arith, most, same, read)

-- ---- a test that decides which elements are below a number

pub below_parts : {X F : Type 0} {g : Mut F (Bor X × Unit {0}) Bool} {s : F} (f : X → ℕ) (n : ℕ) (xs : List X) (i : ℕ)
    → ((q : X → Bool) → ComputesKey g q s → IsPartitionedBy q xs → IsPartitionPoint (λ y. q y ≡ true) (λ y. q y ≡ false) xs i)
    → IsNonDecreasingBy f xs → ((a : Bor X × Unit {0}) (r : Bool) (s' : F) → Called g s a r s' → (r ≡ ltb (f a.0.now) n) × (s' ≡ s))
    → All (λ x. f x < n) (take i xs) × All (λ x. n ≤ f x) (drop i xs)
below_parts f n xs i clause rise calls =
    let at = IsPartitionPoint-from_clause (λ x. ltb (f x) n) xs i clause (IsPartitionedBy-ltb f xs n rise) calls in
    (All-front (λ x. f x < n) xs i (λ k d a b. ltb-true _ _ (at.0 k d a b)), All-back (λ x. n ≤ f x) xs i (λ k d a b. ltb-false _ _ (at.1 k d a b)))
