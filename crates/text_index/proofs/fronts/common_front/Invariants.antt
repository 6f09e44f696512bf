-- As many bits are cut off both ends.
use Rattle.std.proofs.Common.{◌+◌}
use Rattle.text_index.proofs.CommonFronts.{IsCut}
use Rattle.text_index.proofs.fronts.common_front.Given as goal

abbrev pub invariant-cutting : goal.invariant-cutting
invariant-cutting l = IsCut l.first l.last l.lo l.hi

abbrev pub decreases-cutting : goal.decreases-cutting
decreases-cutting l = l.lo + l.hi
