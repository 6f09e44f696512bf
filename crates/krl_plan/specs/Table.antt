-- The state of the table after the last runs of a set.
use Rattle.std.specs.Prelude.{◌≡◌, ℕ, ◌+◌, ◌-◌, ◌*◌, ◌^◌, ◌≤◌, List, ◌∷◌, length, drop}
use Rattle.std.specs.Prelude.{slice_index, slice_index_or as get_or}
use Rattle.serial_set.specs.declared.span.Span.{Span}
use Rattle.krl_plan.specs.declared.group.Group.{Group}
use Rattle.krl_plan.specs.declared.table.Table.{Table}
use Rattle.krl_plan.specs.Bitmaps.{HasBitmaps}
use Rattle.krl_plan.specs.Lists.{HasLists}
use Rattle.krl_plan.specs.Plan.{IsGroup}
use Rattle.krl_plan.specs.Search.{IsFirst, IsLeastCost}

-- The group can be at the front of the runs, and the least plan begins with it.
abbrev pub IsChoice : List Span → Group → Type 0
IsChoice runs group = IsGroup runs group × IsFirst runs group

-- There is one choice for each run, and that of the first run is last.
pub record AreChoices (runs : List Span) (choices : List Group) : Type 0 where
  pub one_each : length choices ≡ length runs
  pub each : (j k : ℕ) (d : Group) → j + k + 1 ≡ length choices
      → IsChoice (drop j runs) (get_or choices k d)

-- The rests are the least costs of all runs except the first, of all except the first two, and so
-- on.
pub record IsKnown (table : Table) (at : ℕ) (runs : List Span) (rests : List ℕ) : Type 0 where
  pub lists : HasLists table.lists at runs rests
  pub bitmaps : HasBitmaps table.bitmaps at runs rests
  pub costs : (k : ℕ) → k ≤ length runs
      → IsLeastCost (drop k runs) (slice_index (table.least ∷ rests) k)
  pub bounded : table.least ≤ 21 * length table.choices.items
  pub choices : AreChoices runs table.choices.items

-- The table is that of the runs. Their indexes are counted down from the greatest number.
abbrev pub Knows : Table → List Span → Type 0
Knows table runs =
    (at : ℕ) × ((at + length runs ≡ 2 ^ 64 - 1) × ((rests : List ℕ) × IsKnown table at runs rests))
