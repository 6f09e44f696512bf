use Rattle.krl_core.proofs.Common.{◌*◌, ◌+◌, ◌-◌, LeadsOn, limit}
use Rattle.krl_format.proofs.LongestFronts.{weight}
use Rattle.krl_core.proofs.reading.Walk.read_on.Given as goal

-- some more fields were read
abbrev pub invariant-fields : goal.invariant-fields
invariant-fields g l = LeadsOn l.fn.self l.walk

abbrev pub decreases-fields : goal.decreases-fields
decreases-fields g l = 2 * (limit - l.walk.pull.taken) + weight l.walk.place
