-- The subsection that lists serials.
use Rattle.krl_plan.proofs.Common.{[], ◌*◌, ◌++◌, ◌+◌, ◌-◌, ◌∙◌, ◌∷◌, ◌≡◌, ◌≤◌, All, ap}
use Rattle.krl_plan.proofs.Common.{append_assoc, arith, drop, drop_at, flat_map, flat_map-append}
use Rattle.krl_plan.proofs.Common.{IsSmall, length, length-append, length-number, length-numbers}
use Rattle.krl_plan.proofs.Common.{List, number, refl, serial_count, serials_from, serials_of, Span}
use Rattle.krl_plan.proofs.Common.{string, suc, sym, take, take_all, take_at, zero, ℕ}

length-serials_from : (first count : ℕ) → length (serials_from first count) ≡ count
length-serials_from first zero = refl
length-serials_from first (suc count) = omega (arith, length-serials_from (first + 1) count)

length-serials_of : (runs : List Span) → length (serials_of runs) ≡ serial_count runs
length-serials_of [] = refl
length-serials_of (run ∷ runs) =
    omega (
      arith,
      length-append (serials_from run.lo (run.hi + 1 - run.lo)) (serials_of runs),
      length-serials_from run.lo (run.hi + 1 - run.lo),
      length-serials_of runs,
    )

-- the bytes of a list of serials
pub length-listed : (runs : List Span)
    → length (flat_map (number 8) (serials_of runs)) ≡ 8 * serial_count runs
length-listed runs = omega (arith, length-numbers (serials_of runs), length-serials_of runs)

-- small runs have at most two serials each
pub small_few : (runs : List Span) → All IsSmall runs → serial_count runs ≤ 2 * length runs
small_few [] all = omega arith
small_few (run ∷ runs) all =
    let here : IsSmall run = all 0 run (omega arith) in
    let rest = small_few runs (λ k d lt. all (suc k) d (omega arith)) in
    omega arith

-- one more run
pub listed_more : (out : List ℕ) (runs : List Span) (run : Span)
    → (out ++ flat_map (number 8) (serials_of runs)) ++ flat_map (number 8) (serials_of (run ∷ []))
    ≡ out ++ flat_map (number 8) (serials_of (runs ++ run ∷ []))
listed_more out runs run =
    append_assoc out (flat_map (number 8) (serials_of runs))
    (flat_map (number 8) (serials_of (run ∷ [])))
    ∙ ap (λ (t : List ℕ). out ++ t)
    (sym (flat_map-append (number 8) (serials_of runs) (serials_of (run ∷ [])))
    ∙ ap (flat_map (number 8))
    (sym (flat_map-append (λ (r : Span). serials_from r.lo (r.hi + 1 - r.lo)) runs (run ∷ []))))

-- all runs were put
pub all_listed : (runs : List Span) (i : ℕ) (begun out : List ℕ) → length runs ≤ i
    → out ≡ begun ++ flat_map (number 8) (serials_of (take i runs))
    → out ≡ begun ++ flat_map (number 8) (serials_of runs)
all_listed runs i begun out le e =
    e ∙ ap (λ (xs : List Span). begun ++ flat_map (number 8) (serials_of xs)) (take_all i runs le)

-- ---- a type byte, and a string whose length is put last

pub length-begun : (old begun content out : List ℕ) (kind : ℕ) → begun ≡ old ++ kind ∷ number 4 0
    → out ≡ begun ++ content → length out ≡ length old + 5 + length content
length-begun old begun content out kind b e =
    omega (
      arith,
      ap length e,
      length-append begun content,
      ap length b,
      length-append old (kind ∷ number 4 0),
      length-number 4 0,
    )

pub string_ended : (old begun content out : List ℕ) (kind at : ℕ) → begun ≡ old ++ kind ∷ number 4 0
    → out ≡ begun ++ content → at ≡ length old + 1
    → take at out ++ string (drop (at + 4) out) ≡ old ++ kind ∷ string content
string_ended old begun content out kind at b e is =
    let before : List ℕ = old ++ kind ∷ [] in
    let kept : begun ≡ before ++ number 4 0 = b ∙ sym (append_assoc old (kind ∷ []) (number 4 0)) in
    let len = length-append old (kind ∷ []) in
    let len2 : length begun ≡ at + 4 =
    omega (arith, ap length kept, length-append before (number 4 0), length-number 4 0) in
    let front : take at out ≡ before =
    ap (take at) (e ∙ ap (λ (t : List ℕ). t ++ content) kept
    ∙ append_assoc before (number 4 0) content)
    ∙ take_at before (number 4 0 ++ content) at (omega arith) in
    let back : drop (at + 4) out ≡ content =
    ap (drop (at + 4)) e ∙ drop_at begun content (at + 4) len2 in
    ap (λ (t : List ℕ). t ++ string (drop (at + 4) out)) front
    ∙ ap (λ (t : List ℕ). before ++ string t) back ∙ append_assoc old (kind ∷ []) (string content)
