-- The order of the sorts of a serial subsection.
use Rattle.std.specs.Prelude.{ℕ}
use Rattle.krl_plan.specs.declared.group.Sort.{Sort}
use Rattle.krl_plan.specs.declared.group.Sort.TheVariants.{Serials, Range, Bitmap}

abbrev pub rank : Sort → ℕ
rank Serials = 0
rank Range = 1
rank Bitmap = 2
