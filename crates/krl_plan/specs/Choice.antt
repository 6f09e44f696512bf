-- A group stored in two bytes.
use Rattle.std.specs.Prelude.{ℕ, ◌/◌, ◌%◌, zero, suc}
use Rattle.krl_plan.specs.declared.group.Group.{Group}
use Rattle.krl_plan.specs.declared.group.Sort.{Sort}
use Rattle.krl_plan.specs.declared.group.Sort.TheVariants.{Serials, Range, Bitmap}

abbrev pub sort_in : ℕ → Sort
sort_in zero = Serials
sort_in (suc zero) = Range
sort_in (suc (suc n)) = Bitmap

abbrev pub group_in : ℕ → Group
group_in code = record { sort = sort_in (code % 4); count = code / 4 }
