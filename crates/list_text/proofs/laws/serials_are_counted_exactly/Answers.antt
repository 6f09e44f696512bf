-- No count comes near 2^128.
use Rattle.std.proofs.Common.{◌∙◌, arith}
use Rattle.list_text.proofs.ExactCounts.{exact_from}
use Rattle.list_text.specs.Counts.{nothing_counted}
use Rattle.list_text.proofs.laws.serials_are_counted_exactly.Goals as goal

pub returns : goal.returns
returns c facts small few = exact_from nothing_counted facts (omega (arith, few)) small ∙ omega arith
