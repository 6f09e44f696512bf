-- Tests that are joined.
use Rattle.std.proofs.Common.{◌≡◌, Bool, true, false, ◌&&◌, ◌||◌, refl, ap}

-- one of many tests is `x`, guarded by the first of several or by another one
pub one_more_guard : (first others guard guards x : Bool)
    → ((first || (guard && x)) || (others || (guards && x))) ≡ ((first || others) || ((guard || guards) && x))
one_more_guard true others guard guards x = refl
one_more_guard false others false guards x = refl
one_more_guard false true true guards true = refl
one_more_guard false false true guards true = refl
one_more_guard false others true true false = refl
one_more_guard false others true false false = refl

-- two guards of one test, one after the other
pub both_guards : (old first second x : Bool) → ((old || (first && x)) || (second && x)) ≡ (old || ((first || second) && x))
both_guards true first second x = refl
both_guards false false second x = refl
both_guards false true second true = refl
both_guards false true true false = refl
both_guards false true false false = refl

-- a guard that follows from the test
pub needless_guard : (guard test x : Bool) → (test ≡ true → guard ≡ true) → (guard && (test && x)) ≡ (test && x)
needless_guard guard true x follows = ap (λ (b : Bool). b && x) (follows refl)
needless_guard true false x follows = refl
needless_guard false false x follows = refl

pub last_first : (a b c : Bool) → ((a || b) || c) ≡ (a || (c || b))
last_first true b c = refl
last_first false true true = refl
last_first false true false = refl
last_first false false true = refl
last_first false false false = refl
