-- The table of costs and choices: one more run in front, and the steps that give the plan.
use Rattle.krl_plan.proofs.Common.{[], ◌*◌, ◌++◌, ◌+◌, ◌-◌, ◌<◌, ◌∙◌, ◌∷◌, ◌≡◌, ◌≤◌, ap, append-nil}
use Rattle.krl_plan.proofs.Common.{append_assoc, AreChoices, arith, Cell, drop, drop-drop, drop_all}
use Rattle.krl_plan.proofs.Common.{get_or, get_or_append_left, get_or_push, Group, IsBest, IsChoice}
use Rattle.krl_plan.proofs.Common.{IsGroup, IsLeastCost, IsLeastPlan, IsPlan, IsRuns, length}
use Rattle.krl_plan.proofs.Common.{length-drop, length_push, List, Prefers, refl, slice_index, Span}
use Rattle.krl_plan.proofs.Common.{subst, suc, sym, zero, ℕ}
use Rattle.krl_plan.proofs.ChosenGroups.{Rests, best_first, best_least}
use Rattle.krl_plan.proofs.BestCandidates.{best_bounded}

-- ---- no runs

none_plan : IsPlan [] []
none_plan = refl

none_first : (other : List Group) → IsPlan [] other → other ≡ []
none_first [] p = refl
none_first (group ∷ groups) p =
    let some = IsGroup.some (p.0) in
    let within : group.count ≤ 0 = IsGroup.within (p.0) in
    absurd (omega arith)

none_least : IsLeastPlan [] []
none_least = record {
  is_cheapest = record { is_plan = none_plan; least = λ other p. omega arith };
  preferred = λ other c. subst (λ (o : List Group). Prefers [] o) (sym (none_first other c.is_plan)) tt;
}

-- the least cost of the runs after this many at the front
abbrev pub AreCosts : List Span → List ℕ → Type 0
AreCosts runs costs = (k : ℕ) → k ≤ length runs → IsLeastCost (drop k runs) (slice_index costs k)

pub none_costs : AreCosts [] (0 ∷ [])
none_costs zero le = record { below = λ plan p. omega arith; reached = ([], (none_plan, refl)) }
none_costs (suc k) le = absurd (omega arith)

pub none_choices : AreChoices [] []
none_choices = record {
  one_each = refl;
  each = λ j k d e. absurd (omega arith);
}

-- ---- one more

rests_of : (run : Span) (runs : List Span) (costs : List ℕ) → AreCosts runs costs → Rests costs (run ∷ runs)
rests_of run runs costs all zero some within few = absurd (omega arith)
rests_of run runs costs all (suc count) some within few = all count (omega arith)

pub costs_more : (run : Span) (runs : List Span) (costs : List ℕ) (cell : Cell) → IsRuns (run ∷ runs) → AreCosts runs costs → IsBest costs (run ∷ runs) cell → AreCosts (run ∷ runs) (cell.cost ∷ costs)
costs_more run runs costs cell rises all best zero le = best_least costs (run ∷ runs) cell rises (rests_of run runs costs all) best
costs_more run runs costs cell rises all best (suc k) le = all k (omega arith)

each_more : (choices : List Group) (group : Group) (run : Span) (runs : List Span) → AreChoices runs choices → IsChoice (run ∷ runs) group
    → (j k : ℕ) (d : Group) → j + k + 1 ≡ length (choices ++ group ∷ []) → IsChoice (drop j (run ∷ runs)) (get_or (choices ++ group ∷ []) k d)
each_more choices group run runs c here zero k d e =
    subst (IsChoice (run ∷ runs)) (sym (get_or_push choices group d k (omega (arith, e, length_push choices group)))) here
each_more choices group run runs c here (suc j) k d e =
    let count = length_push choices group in
    subst (IsChoice (drop j runs)) (sym (get_or_append_left choices (group ∷ []) d k (omega arith))) (c.each j k d (omega arith))

pub choices_more : (choices : List Group) (run : Span) (runs : List Span) (costs : List ℕ) (cell : Cell) → IsRuns (run ∷ runs) → AreCosts runs costs → IsBest costs (run ∷ runs) cell
    → AreChoices runs choices → AreChoices (run ∷ runs) (choices ++ cell.group ∷ [])
choices_more choices run runs costs cell rises all best c = record {
  one_each = omega (arith, length_push choices cell.group, c.one_each);
  each = each_more choices cell.group run runs c (best.is_cell.is_group, best_first costs (run ∷ runs) cell rises (rests_of run runs costs all) best);
}

chosen_at : (choices : List Group) (runs : List Span) (left : ℕ) (group : Group) → AreChoices runs choices → group ≡ get_or choices (left - 1) group → 0 < left → left ≤ length choices
    → IsChoice (drop (length choices - left) runs) group
chosen_at choices runs left group c is some within = subst (IsChoice (drop (length choices - left) runs)) (sym is) (c.each (length choices - left) (left - 1) group (omega arith))

-- a choice has no more runs than there are
pub choice_fits : (choices : List Group) (runs : List Span) (left : ℕ) (group : Group) → AreChoices runs choices → group ≡ get_or choices (left - 1) group → 0 < left → left ≤ length choices
    → (0 < group.count) × (group.count ≤ left)
choice_fits choices runs left group c is some within =
    let here = (chosen_at choices runs left group c is some within).0 in
    let one = c.one_each in
    (here.some, omega (arith, here.within, length-drop (length choices - left) runs))

pub bounded_more : (choices : List Group) (run : Span) (runs : List Span) (least : ℕ) (rests : List ℕ) (cell : Cell) → least ≤ 21 * length choices → IsBest (least ∷ rests) (run ∷ runs) cell
    → cell.cost ≤ 21 * length (choices ++ cell.group ∷ [])
bounded_more choices run runs least rests cell le best =
    let count = length_push choices cell.group in
    let bounded : cell.cost ≤ 21 + least = best_bounded (least ∷ rests) (run ∷ runs) cell (omega arith) best in
    omega arith

-- ---- the steps

-- the groups so far, followed by the least plan of the runs left, are the least plan
abbrev pub Planned : List Group → List Group → ℕ → Type 0
Planned choices plan left =
    (runs : List Span) → AreChoices runs choices → (done : ℕ) (rest : List Group) → done + left ≡ length choices → IsLeastPlan (drop done runs) rest → IsLeastPlan runs (plan ++ rest)

pub Planned-start : (choices plan : List Group) (left : ℕ) → plan ≡ [] → left ≡ length choices → Planned choices plan left
Planned-start choices plan left e all runs c done rest at chosen =
    let none : done ≡ 0 = omega arith in
    rw e (subst (λ (n : ℕ). IsLeastPlan (drop n runs) rest) none chosen)

pub Planned-more : (choices plan : List Group) (left : ℕ) (group : Group) → group ≡ get_or choices (left - 1) group → 0 < left → left ≤ length choices → group.count ≤ left → Planned choices plan left
    → Planned choices (plan ++ group ∷ []) (left - group.count)
Planned-more choices plan left group is some within fits w runs c done rest at chosen =
    let before : ℕ = length choices - left in
    let same : drop done runs ≡ drop group.count (drop before runs) = ap (λ (n : ℕ). drop n runs) (omega arith) ∙ sym (drop-drop group.count before runs) in
    let tail = (chosen_at choices runs left group c is some within).1 rest (subst (λ (xs : List Span). IsLeastPlan xs rest) same chosen) in
    subst (IsLeastPlan runs) (sym (append_assoc plan (group ∷ []) rest)) (w runs c before (group ∷ rest) (omega arith) tail)

pub Planned-all : (choices plan : List Group) (runs : List Span) → Planned choices plan 0 → AreChoices runs choices → IsLeastPlan runs plan
Planned-all choices plan runs w c =
    let one = c.one_each in
    let none : drop (length choices) runs ≡ [] = drop_all (length choices) runs (omega arith) in
    subst (IsLeastPlan runs) (append-nil plan) (w runs c (length choices) [] (omega arith) (subst (λ (xs : List Span). IsLeastPlan xs []) (sym none) none_least))
