-- Steps that may fail, and what follows if they succeed or fail.
use Rattle.std.proofs.Common.{◌≡◌, ◌≢◌, ℕ, ◌<◌, Bool, true, false, cond, eqb, Option, Some, None}
use Rattle.std.proofs.Common.{Result, Ok, Err, refl, ap, arith, ◌⊎◌, inl, inr}
use Rattle.std.specs.Option.{ok_or}
use Rattle.std.proofs.lemmas.Bool.{eqb-false}
use Rattle.ssh_wire.specs.Reading.{◌>>=◌, in_fault}

-- ---- a step that succeeded

pub bind_ok : {A B E : Type 0} (r : Result A E) (f : A → Result B E) (y : B) → (r >>= f) ≡ Ok y
    → (x : A) × (r ≡ Ok x) × (f x ≡ Ok y)
bind_ok (Ok x) f y e = (x, refl, e)
bind_ok (Err d) f y e = absurd cc

-- a step whose fault is reported as another fault
pub in_fault_ok : {A E F : Type 0} (words : E → F) (r : Result A E) (x : A)
    → in_fault words r ≡ Ok x → r ≡ Ok x
in_fault_ok words (Ok y) x e = let same : y ≡ x = cc in cc
in_fault_ok words (Err fault) x e = absurd cc

-- a value that exists
pub some_ok : {A E : Type 0} (o : Option A) (d : E) (x : A) → ok_or o d ≡ Ok x → o ≡ Some x
some_ok None d x e = absurd cc
some_ok (Some y) d x e = let same : y ≡ x = cc in cc

-- a test that passed
pub passed_ok : {A E : Type 0} (b : Bool) (d : E) (x y : A) → cond b (Ok x) (Err d) ≡ Ok y
    → (b ≡ true) × (x ≡ y)
passed_ok true d x y e = (refl, cc)
passed_ok false d x y e = absurd cc

pub guard_ok : {A E : Type 0} (b : Bool) (d : E) (x y : A) → cond b (Err d) (Ok x) ≡ Ok y
    → (b ≡ false) × (x ≡ y)
guard_ok true d x y e = absurd cc
guard_ok false d x y e = (refl, cc)

-- ---- a step that failed, or one after it

pub bind_err : {A B E : Type 0} (r : Result A E) (f : A → Result B E) (d : E) → (r >>= f) ≡ Err d
    → (r ≡ Err d) ⊎ ((x : A) × (r ≡ Ok x) × (f x ≡ Err d))
bind_err (Ok x) f d e = inr (x, refl, e)
bind_err {E = E} (Err c) f d e = let same : c ≡ d = cc in inl (ap (λ (k : E). Err k) same)

pub in_fault_err : {A E F : Type 0} (words : E → F) (r : Result A E) (d : F)
    → in_fault words r ≡ Err d → (why : E) × (r ≡ Err why) × (d ≡ words why)
in_fault_err words (Ok y) d e = absurd cc
in_fault_err words (Err why) d e = (why, refl, cc)

pub none_err : {A E : Type 0} (o : Option A) (c d : E) → ok_or o c ≡ Err d → (o ≡ None) × (d ≡ c)
none_err None c d e = (refl, cc)
none_err (Some x) c d e = absurd cc

pub failed_err : {A E : Type 0} (b : Bool) (x : A) (c d : E) → cond b (Ok x) (Err c) ≡ Err d
    → (b ≡ false) × (d ≡ c)
failed_err true x c d e = absurd cc
failed_err false x c d e = (refl, cc)

pub guard_err : {A E : Type 0} (b : Bool) (c d : E) (x : A) → cond b (Err c) (Ok x) ≡ Err d
    → (b ≡ true) × (d ≡ c)
guard_err true c d x e = (refl, cc)
guard_err false c d x e = absurd cc

pub never_err : {A E : Type 0} (x : A) (d : E) → Ok x ≡ Err d → ⊥
never_err x d e = cc

-- ---- one answer

pub ok_or_not : {A E : Type 0} (r : Result A E) → ((x : A) × (r ≡ Ok x)) ⊎ ((d : E) × (r ≡ Err d))
ok_or_not (Ok x) = inl (x, refl)
ok_or_not (Err d) = inr (d, refl)

pub ok_is : {A E : Type 0} (x y : A) (r : Result A E) → r ≡ Ok x → r ≡ Ok y → x ≡ y
ok_is x y r e f = cc

pub err_is : {A E : Type 0} (d e : E) (r : Result A E) → r ≡ Err d → r ≡ Err e → d ≡ e
err_is d e r p q = cc

pub ok_or_err : {A E : Type 0} (x : A) (d : E) (r : Result A E) → r ≡ Ok x → r ≡ Err d → ⊥
ok_or_err x d r p q = cc

-- ---- a test of an end

pub above_zero : (n : ℕ) → eqb n 0 ≡ false → 0 < n
above_zero n e = let ne : n ≢ 0 = eqb-false _ _ e in omega arith
