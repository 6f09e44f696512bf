-- The best groups, one after another, are the least plan.
use Rattle.krl_plan.proofs.Common.{[], ◌*◌, ◌+◌, ◌-◌, ◌<◌, ◌∙◌, ◌∷◌, ◌≡◌, ◌≤◌, Allows, ap, arith}
use Rattle.krl_plan.proofs.Common.{Bitmap, cases_lt, Cell, cost, drop, end_of, Group, inl, inr}
use Rattle.krl_plan.proofs.Common.{IsBest, IsCheapest, IsFirst, IsGroup, IsLeastCost, IsLeastPlan}
use Rattle.krl_plan.proofs.Common.{IsPlan, IsRuns, length, length-take-le, List, Prefers, Range}
use Rattle.krl_plan.proofs.Common.{refl, rest_cost, RunsFrom, RunsFrom-weaker, Serials, Sort, Span}
use Rattle.krl_plan.proofs.Common.{subst, suc, sym, take, zero, ℕ}
use Rattle.krl_plan.specs.Sorts.{rank}

-- ---- runs

pub RunsFrom-take : (a n : ℕ) (runs : List Span) → RunsFrom a runs → RunsFrom a (take n runs)
RunsFrom-take a zero runs r = tt
RunsFrom-take a (suc n) [] r = tt
RunsFrom-take a (suc n) (run ∷ runs) r = (r.0, r.1, RunsFrom-take (run.hi + 2) n runs r.2)

pub IsRuns-drop : (a n : ℕ) (runs : List Span) → RunsFrom a runs → IsRuns (drop n runs)
IsRuns-drop a zero runs r = RunsFrom-weaker a 0 runs (omega arith) r
IsRuns-drop a (suc n) [] r = tt
IsRuns-drop a (suc n) (run ∷ runs) r = IsRuns-drop (run.hi + 2) n runs r.2

-- each further run ends at least two above the one before
end_far : (a : ℕ) (run : Span) (runs : List Span) → RunsFrom a (run ∷ runs)
    → run.lo + 2 * length runs ≤ end_of run runs
end_far a run [] r = omega arith
end_far a run (next ∷ runs) r =
    let far = end_far (run.hi + 2) next runs r.2 in
    let above : run.hi + 2 ≤ next.lo = r.2.0 in
    let some : run.lo ≤ run.hi = r.1 in
    omega arith

allowed_few : (sort : Sort) (runs : List Span) → IsRuns runs → Allows sort runs → length runs ≤ 1024
allowed_few Serials runs r c = c.0
allowed_few Range runs r c = omega arith
allowed_few Bitmap [] r c = omega arith
allowed_few Bitmap (run ∷ runs) r c =
    let far = end_far 0 run runs r in
    let short : end_of run runs - run.lo < 2048 = c in
    omega arith

-- no group has more than 1,024 runs
pub group_few : (runs : List Span) (group : Group) → IsRuns runs → IsGroup runs group
    → group.count ≤ 1024
group_few runs group r g =
    let few = allowed_few group.sort (take group.count runs) (RunsFrom-take 0 group.count runs r)
    g.allowed in
    let len = length-take-le group.count runs g.within in
    omega arith

-- ---- plans

-- the least cost of the runs after each group is known
abbrev pub Rests : List ℕ → List Span → Type 0
Rests costs runs = (count : ℕ) → 0 < count → count ≤ length runs → count ≤ 1024 → IsLeastCost
    (drop count runs) (rest_cost costs count)

rest_of : (costs : List ℕ) (runs : List Span) (group : Group) → IsRuns runs → Rests costs runs
    → IsGroup runs group → IsLeastCost (drop group.count runs) (rest_cost costs group.count)
rest_of costs runs group r rests g = rests group.count g.some g.within (group_few runs group r g)

cost_least : (runs : List Span) (plan : List Group) (least : ℕ) → IsCheapest runs plan
    → IsLeastCost runs least → cost runs plan ≡ least
cost_least runs plan least c l =
    let up = l.below plan c.is_plan in
    let down = c.least (l.reached.0) (l.reached.1.0) in
    let same = l.reached.1.1 in
    omega arith

best_below : (costs : List ℕ) (runs : List Span) (cell : Cell) → IsRuns runs → Rests costs runs
    → IsBest costs runs cell → (plan : List Group) → IsPlan runs plan → cell.cost ≤ cost runs plan
best_below costs runs cell r rests b [] p =
    let some = b.is_cell.is_group.some in
    let within = b.is_cell.is_group.within in
    absurd (omega arith)
best_below costs runs cell r rests b (group ∷ groups) p =
    let after = IsLeastCost.below (rest_of costs runs group r rests p.0) groups p.1 in
    let wins = b.wins group p.0 in grind arith

-- the best cell's cost is the least of the runs
pub best_least : (costs : List ℕ) (runs : List Span) (cell : Cell) → IsRuns runs → Rests costs runs
    → IsBest costs runs cell → IsLeastCost runs cell.cost
best_least costs runs cell r rests b =
    let group = b.is_cell.is_group in
    let rest = rest_of costs runs cell.group r rests group in
    let same = rest.reached.1.1 in
    let is = b.is_cell.cost_is in
    record {
      below = best_below costs runs cell r rests b;
      reached = (cell.group ∷ rest.reached.0, ((group, rest.reached.1.0), omega arith));
    }

rank_one : (a b : Sort) → rank a ≡ rank b → a ≡ b
rank_one Serials Serials e = refl
rank_one Serials Range e = absurd (omega (arith, e))
rank_one Serials Bitmap e = absurd (omega (arith, e))
rank_one Range Serials e = absurd (omega (arith, e))
rank_one Range Range e = refl
rank_one Range Bitmap e = absurd (omega (arith, e))
rank_one Bitmap Serials e = absurd (omega (arith, e))
rank_one Bitmap Range e = absurd (omega (arith, e))
rank_one Bitmap Bitmap e = refl

group_one : (a b : Group) → rank a.sort ≡ rank b.sort → a.count ≡ b.count → a ≡ b
group_one a b e f =
    let made : Sort → ℕ → Group = λ s n. record { sort = s; count = n } in
    ap (λ (s : Sort). made s a.count) (rank_one a.sort b.sort e) ∙ ap (made b.sort) f

-- the rest of a cheapest plan after its first group is a cheapest plan
tail_cheapest : (runs : List Span) (group : Group) (groups : List Group)
    → IsCheapest runs (group ∷ groups) → IsCheapest (drop group.count runs) groups
tail_cheapest runs group groups c = record {
  is_plan = c.is_plan.1;
  least = λ other p.
      let h = c.least (group ∷ other) (c.is_plan.0, p) in
      omega arith;
}

prefers : (costs : List ℕ) (runs : List Span) (cell : Cell) (rest : List Group) → IsRuns runs
    → Rests costs runs → IsBest costs runs cell
    → IsLeastPlan (drop cell.group.count runs) rest → cost runs (cell.group ∷ rest) ≡ cell.cost
    → (other : List Group) → IsCheapest runs other → Prefers (cell.group ∷ rest) other
prefers costs runs cell rest r rests b chosen whole [] c =
    let some = b.is_cell.is_group.some in
    let within = b.is_cell.is_group.within in
    let none : length runs ≡ 0 = c.is_plan in
    absurd (omega arith)
prefers costs runs cell rest r rests b chosen whole (group ∷ groups) c =
    let after = IsLeastCost.below (rest_of costs runs group r rests c.is_plan.0)
    groups c.is_plan.1 in
    let most = c.least (cell.group ∷ rest) (b.is_cell.is_group, chosen.is_cheapest.is_plan) in
    elim (b.wins group c.is_plan.0) [
      | inl lt ↦ absurd (omega arith)
      | inr tie ↦ elim tie.1 [
        | inl sort ↦ inl (inl sort)
        | inr same ↦ elim (cases_lt group.count cell.group.count) [
          | inl longer ↦ inl (inr (same.0, longer))
          | inr le ↦
              let equal : cell.group ≡ group = group_one cell.group group same.0 (omega arith) in
              let tail = tail_cheapest runs group groups c in
              inr (
                equal,
                chosen.preferred groups
                    (subst (λ (g : Group). IsCheapest (drop g.count runs) groups) (sym equal) tail),
              )
        ]
      ]
    ]

-- the best cell's group is the first of the least plan
pub best_first : (costs : List ℕ) (runs : List Span) (cell : Cell) → IsRuns runs → Rests costs runs
    → IsBest costs runs cell → IsFirst runs cell.group
best_first costs runs cell r rests b rest chosen =
    let group = b.is_cell.is_group in
    let is = b.is_cell.cost_is in
    let same = cost_least (drop cell.group.count runs) rest (rest_cost costs cell.group.count)
    chosen.is_cheapest (rest_of costs runs cell.group r rests group) in
    let whole : cost runs (cell.group ∷ rest) ≡ cell.cost = omega arith in
    record {
      is_cheapest = record {
        is_plan = (group, chosen.is_cheapest.is_plan);
        least = λ other p. let h = best_below costs runs cell r rests b other p in omega arith;
      };
      preferred = prefers costs runs cell rest r rests b chosen whole;
    }
