-- How runs of serials are divided among subsections, and what that costs in bytes.
use Rattle.std.specs.Prelude.{◌≡◌, ℕ, ◌+◌, ◌-◌, ◌*◌, ◌/◌, ◌<◌, ◌≤◌, ◌⊎◌, List, [], ◌∷◌, length}
use Rattle.std.specs.Prelude.{take, drop, All, ⊤}
use Rattle.serial_set.specs.declared.span.Span.{Span}
use Rattle.krl_plan.specs.declared.group.Sort.{Sort}
use Rattle.krl_plan.specs.declared.group.Sort.TheVariants.{Serials, Range, Bitmap}
use Rattle.krl_plan.specs.declared.group.Group.{Group}
use Rattle.krl_plan.specs.Sorts.{rank}

-- how many serials the runs have
abbrev pub serial_count : List Span → ℕ
serial_count [] = 0
serial_count (run ∷ runs) = (run.hi + 1 - run.lo) + serial_count runs

-- the end of the last of some runs
abbrev pub end_of : Span → List Span → ℕ
end_of run [] = run.hi
end_of run (next ∷ runs) = end_of next runs

-- how far the last serial is from the first
abbrev pub reach : List Span → ℕ
reach [] = 0
reach (run ∷ runs) = end_of run runs - run.lo

-- ---- groups

-- the run is one serial, or two
abbrev pub IsSmall : Span → Type 0
IsSmall run = run.hi ≤ run.lo + 1

-- a subsection of this sort may name exactly these runs
abbrev pub Allows : Sort → List Span → Type 0
Allows Serials runs = (length runs ≤ 1024) × All IsSmall runs
Allows Range runs = length runs ≡ 1
Allows Bitmap runs = reach runs < 2048

-- the length of a subsection that names these runs, including its type byte and lengths
abbrev pub bytes_of : Sort → List Span → ℕ
bytes_of Serials runs = 5 + 8 * serial_count runs
bytes_of Range runs = 21
bytes_of Bitmap runs = 18 + (reach runs + 1) / 8

-- the group can be at the front of the runs
pub record IsGroup (runs : List Span) (group : Group) : Type 0 where
  pub some : 0 < group.count
  pub within : group.count ≤ length runs
  pub allowed : Allows group.sort (take group.count runs)

-- the bytes of the group at the front of the runs
abbrev pub group_cost : List Span → Group → ℕ
group_cost runs group = bytes_of group.sort (take group.count runs)

-- ---- plans

-- the groups name the runs, one group after another
abbrev pub IsPlan : List Span → List Group → Type 0
IsPlan runs [] = length runs ≡ 0
IsPlan runs (group ∷ groups) = IsGroup runs group × IsPlan (drop group.count runs) groups

-- the length of all subsections
abbrev pub cost : List Span → List Group → ℕ
cost runs [] = 0
cost runs (group ∷ groups) = group_cost runs group + cost (drop group.count runs) groups

-- no plan of the same runs costs less
pub record IsCheapest (runs : List Span) (plan : List Group) : Type 0 where
  pub is_plan : IsPlan runs plan
  pub least : (other : List Group) → IsPlan runs other → cost runs plan ≤ cost runs other

-- The first group's sort comes first, or the sorts are equal and it is longer.
abbrev pub Before : Group → Group → Type 0
Before a b = (rank a.sort < rank b.sort) ⊎ ((rank a.sort ≡ rank b.sort) × (b.count < a.count))

-- Where the plans first differ, the first plan's group comes before the second's.
abbrev pub Prefers : List Group → List Group → Type 0
Prefers [] [] = ⊤
Prefers [] (b ∷ others) = ⊥
Prefers (a ∷ groups) [] = ⊥
Prefers (a ∷ groups) (b ∷ others) = Before a b ⊎ ((a ≡ b) × Prefers groups others)

-- No plan of the same runs costs less, and it comes before all others that cost the same.
pub record IsLeastPlan (runs : List Span) (plan : List Group) : Type 0 where
  pub is_cheapest : IsCheapest runs plan
  pub preferred : (other : List Group) → IsCheapest runs other → Prefers plan other
