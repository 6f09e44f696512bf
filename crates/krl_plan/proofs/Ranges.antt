-- The plan that has a range for each run. No least plan costs more.
use Rattle.krl_plan.proofs.Common.{[], ◌*◌, ◌∷◌, ◌≡◌, ◌≤◌, arith, cost, Group, IsCheapest, IsPlan}
use Rattle.krl_plan.proofs.Common.{length, List, Range, refl, Span}

abbrev pub ranges : List Span → List Group
ranges [] = []
ranges (run ∷ runs) = record { sort = Range; count = 1 } ∷ ranges runs

pub ranges_plan : (runs : List Span) → IsPlan runs (ranges runs)
ranges_plan [] = refl
ranges_plan (run ∷ runs) =
    (record { some = omega arith; within = omega arith; allowed = refl }, ranges_plan runs)

ranges_cost : (runs : List Span) → cost runs (ranges runs) ≡ 21 * length runs
ranges_cost [] = refl
ranges_cost (run ∷ runs) = omega (arith, ranges_cost runs)

pub cheapest_small : (runs : List Span) (plan : List Group) → IsCheapest runs plan
    → cost runs plan ≤ 21 * length runs
cheapest_small runs plan c =
    omega (arith, c.least (ranges runs) (ranges_plan runs), ranges_cost runs)
