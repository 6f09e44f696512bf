use Rattle.krl_plan.proofs.Common.{◌+◌, Above}
use Rattle.krl_plan.proofs.bitmap.has_serial.Given as goal

abbrev pub invariant-loop-count : goal.invariant-loop-count
invariant-loop-count l = Above l.runs l.count (l.serial + 1)

abbrev pub decreases-loop-count : goal.decreases-loop-count
decreases-loop-count l = l.count
