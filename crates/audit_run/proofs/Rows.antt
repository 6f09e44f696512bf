-- One after another.
use Rattle.std.proofs.Common.{◌≡◌, ℕ, ◌<◌, ◌+◌, Bool, true, false, List, [], ◌∷◌, ◌++◌, length, take, drop, get_or}
use Rattle.std.proofs.Common.{refl, sym, ap, subst, ◌∙◌, append_assoc}
use Rattle.std.proofs.lemmas.List.{append-nil, take_more, take-append-drop}
use Rattle.audit_run.specs.Named.{Each, next, none, stopped}
use Rattle.audit_run.specs.Visits.{Visit}

-- all of one row, and then another row
pub each_then : {X : Type 0} (Is : Bool → X → List Visit → Type 0) (whole : Bool) (xs ys : List X) (visits more : List Visit)
    → Each Is true xs visits → Each Is whole ys more → Each Is whole (xs ++ ys) (visits ++ more)
each_then Is whole _ ys _ more none each = each
each_then Is whole _ ys _ more (next x xs first rest is was) each =
    subst (λ (v : List Visit). Each Is whole (x ∷ (xs ++ ys)) v) (sym (append_assoc first rest more))
    (next x (xs ++ ys) first (rest ++ more) is (each_then Is whole xs ys rest more was each))
each_then Is whole _ ys _ more (stopped x xs first cut is) each = absurd (cc)

pub each_one : {X : Type 0} (Is : Bool → X → List Visit → Type 0) (whole : Bool) (x : X) (visits : List Visit) → Is whole x visits
    → Each Is whole (x ∷ []) visits
each_one Is true x visits is = subst (λ (v : List Visit). Each Is true (x ∷ []) v) (append-nil visits) (next x [] visits [] is none)
each_one Is false x visits is = stopped x [] visits refl is

-- a row that was stopped, or that is followed by what was not begun
pub each_cut : {X : Type 0} (Is : Bool → X → List Visit → Type 0) (whole : Bool) (xs ys : List X) (visits : List Visit)
    → ((x : X) → Is false x []) → Each Is whole xs visits → Each Is false (xs ++ ys) visits
each_cut Is whole _ [] _ nothing none = none
each_cut Is whole _ (y ∷ ys) _ nothing none = stopped y ys [] refl (nothing y)
each_cut Is whole _ ys _ nothing (next x xs first rest is was) =
    next x (xs ++ ys) first rest is (each_cut Is whole xs ys rest nothing was)
each_cut Is whole _ ys _ nothing (stopped x xs first cut is) =
    stopped x (xs ++ ys) first refl (subst (λ (w : Bool). Is w x first) refl is)

-- the element at an index, with any default
pub each_more : {X : Type 0} (Is : Bool → X → List Visit → Type 0) (xs : List X) (i : ℕ) (d : X) (visits more : List Visit)
    → i < length xs → Each Is true (take i xs) visits → Is true (get_or xs i d) more → Each Is true (take (i + 1) xs) (visits ++ more)
each_more {X} Is xs i d visits more lt each is =
    subst (λ (ys : List X). Each Is true ys (visits ++ more)) (sym (take_more xs i d lt))
    (each_then Is true (take i xs) (get_or xs i d ∷ []) visits more each (each_one Is true (get_or xs i d) more is))

pub each_stops : {X : Type 0} (Is : Bool → X → List Visit → Type 0) (xs : List X) (i : ℕ) (d : X) (visits more : List Visit)
    → i < length xs → Each Is true (take i xs) visits → Is false (get_or xs i d) more → Each Is false xs (visits ++ more)
each_stops {X} Is xs i d visits more lt each is =
    let x = get_or xs i d in
    let rest = drop (i + 1) xs in
    let all : xs ≡ take i xs ++ x ∷ rest =
    sym (take-append-drop (i + 1) xs) ∙ ap (λ (ys : List X). ys ++ rest) (take_more xs i d lt)
    ∙ append_assoc (take i xs) (x ∷ []) rest in
    subst (λ (ys : List X). Each Is false ys (visits ++ more)) (sym all)
    (each_then Is false (take i xs) (x ∷ rest) visits more each (stopped x rest more refl is))
