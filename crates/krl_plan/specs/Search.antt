-- The search for a least plan, from the last run to the first.
use Rattle.std.specs.Prelude.{◌≡◌, ℕ, zero, suc, ◌+◌, ◌<◌, ◌≤◌, ◌⊎◌, List, ◌∷◌, drop, slice_index}
use Rattle.serial_set.specs.declared.span.Span.{Span}
use Rattle.krl_plan.specs.declared.group.Sort.{Sort}
use Rattle.krl_plan.specs.declared.group.Group.{Group}
use Rattle.krl_plan.specs.declared.cell.Cell.{Cell}
use Rattle.krl_plan.specs.Sorts.{rank}
use Rattle.krl_plan.specs.Plan.{IsGroup, IsPlan, IsLeastPlan, cost, group_cost}

-- the first group comes before the second or is the same
abbrev pub IsAtOrBefore : Group → Group → Type 0
IsAtOrBefore a b =
    (rank a.sort < rank b.sort) ⊎ ((rank a.sort ≡ rank b.sort) × (b.count ≤ a.count))

-- the first cell costs less, or the same and its group does not come after the other's
abbrev pub Wins : Cell → Cell → Type 0
Wins a b = (a.cost < b.cost) ⊎ ((a.cost ≡ b.cost) × IsAtOrBefore a.group b.group)

-- the least cost of the runs after the first `count` ones; the rests begin with the least cost of
-- all runs except the first
abbrev pub rest_cost : List ℕ → ℕ → ℕ
rest_cost rests zero = 0
rest_cost rests (suc count) = slice_index rests count

-- the cost of the cheapest plan that begins with the group
abbrev pub cost_with : List ℕ → List Span → Group → ℕ
cost_with rests runs group = group_cost runs group + rest_cost rests group.count

abbrev pub cell_with : List ℕ → List Span → Group → Cell
cell_with rests runs group = record { cost = cost_with rests runs group; group = group }

-- the cell is that of a group at the front of the runs
pub record IsCell (rests : List ℕ) (runs : List Span) (cell : Cell) : Type 0 where
  pub is_group : IsGroup runs cell.group
  pub cost_is : cell.cost ≡ cost_with rests runs cell.group

-- the cell wins against every group at the front of the runs
pub record IsBest (rests : List ℕ) (runs : List Span) (cell : Cell) : Type 0 where
  pub is_cell : IsCell rests runs cell
  pub wins : (group : Group) → IsGroup runs group → Wins cell (cell_with rests runs group)

-- the best of a cell and of the groups of a sort with the counts for which `Is` holds
pub record IsBestOf (rests : List ℕ) (runs : List Span) (sort : Sort) (Is : ℕ → Type 0)
    (old best : Cell) : Type 0 where
  pub is_cell : IsCell rests runs best
  pub kept : (other : Cell) → Wins old other → Wins best other
  pub beats : (count : ℕ) → Is count
      → Wins best (cell_with rests runs (record { sort = sort; count = count }))

-- some plan of the runs has this cost, and none costs less
pub record IsLeastCost (runs : List Span) (least : ℕ) : Type 0 where
  pub below : (plan : List Group) → IsPlan runs plan → least ≤ cost runs plan
  pub reached : (plan : List Group) × (IsPlan runs plan × (cost runs plan ≡ least))

-- The group, followed by any least plan of the remaining runs, is the least plan of the runs.
abbrev pub IsFirst : List Span → Group → Type 0
IsFirst runs group =
    (rest : List Group) → IsLeastPlan (drop group.count runs) rest → IsLeastPlan runs (group ∷ rest)
