-- The counts of lines determine the kinds of the lines.
use Rattle.list_conditions.proofs.Counting.{law}
use Rattle.list_conditions.proofs.laws.counts_are_met_by_lines.Goals as goal

pub returns : goal.returns
returns c = law
