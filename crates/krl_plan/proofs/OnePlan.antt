-- A list of runs has one least plan, and the length of a plan's text is its cost.
use Rattle.krl_plan.proofs.Common.{[], ◌+◌, ◌<◌, ◌^◌, ◌∙◌, ◌∷◌, ◌≡◌, Allows, ap, arith, Before}
use Rattle.krl_plan.proofs.Common.{bitmap_of, bitmap_size, bytes_of, content_of, cost, drop}
use Rattle.krl_plan.proofs.Common.{first_of, Group, group_text, inl, inr, IsLeastPlan, IsPlan}
use Rattle.krl_plan.proofs.Common.{IsRuns, length, length-append, length-number, length-string}
use Rattle.krl_plan.proofs.Common.{List, number, plan_text, Prefers, reach, refl, Sort, Span}
use Rattle.krl_plan.proofs.Common.{string, subst, sym, take, ℕ}
use Rattle.krl_plan.proofs.ChosenGroups.{IsRuns-drop}
use Rattle.krl_plan.proofs.GroupTexts.{length-bitmap_of}
use Rattle.krl_plan.proofs.ListTexts.{length-listed, small_few}
use Rattle.krl_plan.specs.declared.group.Sort.TheVariants as sorts

not_both : (a b : Group) → Before a b → Before b a → ⊥
not_both a b p q = grind arith

not_itself : (a b : Group) → a ≡ b → Before a b → ⊥
not_itself a b e p = let h : Before b b = subst (λ (g : Group). Before g b) e p in not_both b b h h

same_plan : (one other : List Group) → Prefers one other → Prefers other one → one ≡ other
same_plan [] [] p q = refl
same_plan [] (b ∷ others) p q = absurd p
same_plan (a ∷ groups) [] p q = absurd p
same_plan (a ∷ groups) (b ∷ others) p q =
    elim p [
      | inl before ↦ absurd
          (elim q [
            | inl after ↦ not_both a b before after
            | inr same ↦ not_itself a b (sym same.0)
                before
          ])
      | inr same ↦ elim q [
        | inl after ↦ absurd (not_itself b a (sym same.0) after)
        | inr back ↦ ap (λ (g : Group). g ∷ groups) same.0
            ∙ ap (λ (gs : List Group). b ∷ gs) (same_plan groups others same.1 back.1)
      ]
    ]

pub one_plan : (runs : List Span) (one other : List Group) → IsLeastPlan runs one
    → IsLeastPlan runs other → one ≡ other
one_plan runs one other p q = same_plan one other (p.preferred other q.is_cheapest)
    (q.preferred one p.is_cheapest)

-- ---- bytes

length-content : (sort : Sort) (runs : List Span)
    → 5 + length (content_of sort runs) ≡ bytes_of sort runs
length-content sorts.Serials runs = omega (arith, length-listed runs)
length-content sorts.Range runs =
    omega (
      arith,
      length-append (number 8 (first_of runs)) (number 8 (first_of runs + reach runs)),
      length-number 8 (first_of runs),
      length-number 8 (first_of runs + reach runs),
    )
length-content sorts.Bitmap runs =
    let bits : List ℕ = bitmap_of runs (first_of runs) (bitmap_size runs) in
    let len : length bits ≡ bitmap_size runs =
    length-bitmap_of runs (first_of runs) (bitmap_size runs) in
    omega (
      arith,
      length-append (number 8 (first_of runs)) (string bits),
      length-number 8 (first_of runs),
      length-string bits,
    )

pub content_few : (sort : Sort) (runs : List Span) → Allows sort runs
    → length (content_of sort runs) < 2 ^ 32
content_few sorts.Serials runs c =
    omega (arith, length-content sorts.Serials runs, small_few runs c.1, c.0)
content_few sorts.Range runs c = omega (arith, length-content sorts.Range runs)
content_few sorts.Bitmap runs c =
    let near : reach runs < 2048 = c in omega (arith, length-content sorts.Bitmap runs)

length-group : (sort : Sort) (runs : List Span) → length (group_text sort runs) ≡ bytes_of sort runs
length-group sort runs = omega
    (arith, length-string (content_of sort runs), length-content sort runs)

pub length-plan : (runs : List Span) (plan : List Group) → IsRuns runs → IsPlan runs plan
    → length (plan_text runs plan) ≡ cost runs plan
length-plan runs [] r p = refl
length-plan runs (group ∷ groups) r p =
    let front : List Span = take group.count runs in
    let back : List Span = drop group.count runs in
    omega (
      arith,
      length-append (group_text group.sort front) (plan_text back groups),
      length-group group.sort front,
      length-plan back groups
          (IsRuns-drop 0 group.count runs r) p.1,
    )
