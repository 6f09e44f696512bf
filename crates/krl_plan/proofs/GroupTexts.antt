-- The bytes of a subsection, put one field after another.
use Rattle.krl_plan.proofs.Common.{[], ◌++◌, ◌+◌, ◌-◌, ◌<◌, ◌∙◌, ◌∷◌, ◌≡◌, ap, append_assoc, arith}
use Rattle.krl_plan.proofs.Common.{bitmap_of, first_of, get_or, length, length-append}
use Rattle.krl_plan.proofs.Common.{length-number, length-string, List, number, reach, refl, Span}
use Rattle.krl_plan.proofs.Common.{string, suc, sym, take, take_all, zero, ℕ}
use Rattle.krl_plan.specs.Written.{type_byte}
use Rattle.krl_plan.specs.declared.group.Sort.TheVariants as sorts
use Rattle.krl_plan.proofs.Reach.{reach-take}

pub first-get : (runs : List Span) (d : Span) → 0 < length runs
    → first_of runs ≡ (get_or runs 0 d).lo
first-get [] d lt = absurd (omega arith)
first-get (run ∷ runs) d lt = refl

-- how far the last run's end is from the first one's beginning
pub reach-get : (runs : List Span) (d : Span) → 0 < length runs
    → reach runs ≡ (get_or runs (length runs - 1) d).hi - (get_or runs 0 d).lo
reach-get runs d some =
    let all : take ((length runs - 1) + 1) runs ≡ runs =
    take_all ((length runs - 1) + 1) runs (omega arith) in
    ap reach (sym all) ∙ reach-take runs (length runs - 1) d (omega arith)

pub length-bitmap_of : (runs : List Span) (first size : ℕ)
    → length (bitmap_of runs first size) ≡ size
length-bitmap_of runs first zero = refl
length-bitmap_of runs first (suc size) = omega (arith, length-bitmap_of runs first size)

-- a type byte and a string, put one after another
pub subsection_put : (out : List ℕ) (kind size : ℕ) (content : List ℕ) → length content ≡ size
    → ((out ++ kind ∷ []) ++ number 4 size) ++ content ≡ out ++ kind ∷ string content
unfolding string
subsection_put out kind size content len =
    append_assoc (out ++ kind ∷ []) (number 4 size) content
    ∙ append_assoc out (kind ∷ []) (number 4 size ++ content)
    ∙ ap (λ (n : ℕ). out ++ kind ∷ (number 4 n ++ content)) (sym len)

pub range_put : (out : List ℕ) (lo hi : ℕ)
    → (((out ++ type_byte sorts.Range ∷ []) ++ number 4 16) ++ number 8 lo) ++ number 8 hi ≡ out ++ type_byte sorts.Range ∷ string
    (number 8 lo ++ number 8 hi)
range_put out lo hi =
    append_assoc ((out ++ type_byte sorts.Range ∷ []) ++ number 4 16) (number 8 lo) (number 8 hi)
    ∙ subsection_put out (type_byte sorts.Range) 16 (number 8 lo ++ number 8 hi)
    (omega (
      arith,
      length-append (number 8 lo) (number 8 hi),
      length-number 8 lo,
      length-number 8 hi,
    ))

pub bitmap_put : (out : List ℕ) (first size : ℕ) (bits : List ℕ) → length bits ≡ size
    → ((((out ++ type_byte sorts.Bitmap ∷ []) ++ number 4 (12 + size)) ++ number 8 first) ++ number 4 size)
    ++ bits ≡ out ++ type_byte sorts.Bitmap ∷ string (number 8 first ++ string bits)
unfolding string
bitmap_put out first size bits len =
    let inner : number 4 size ++ bits ≡ string bits =
    ap (λ (n : ℕ). number 4 n ++ bits) (sym len) in
    let before : List ℕ = (out ++ type_byte sorts.Bitmap ∷ []) ++ number 4 (12 + size) in
    append_assoc (before ++ number 8 first) (number 4 size) bits
    ∙ append_assoc before (number 8 first) (number 4 size ++ bits)
    ∙ ap (λ (t : List ℕ). before ++ (number 8 first ++ t)) inner
    ∙ subsection_put out (type_byte sorts.Bitmap) (12 + size) (number 8 first ++ string bits)
    (omega (
      arith,
      length-append (number 8 first) (string bits),
      length-number 8 first,
      length-string bits,
    ))
