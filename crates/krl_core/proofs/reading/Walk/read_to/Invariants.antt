use Rattle.krl_core.proofs.Common.{◌*◌, ◌+◌, ◌-◌, ◌≡◌, ◌≤◌, false, IsBounded, LeadsOn, limit}
use Rattle.krl_format.proofs.LongestFronts.{weight}
use Rattle.krl_core.proofs.reading.Walk.read_to.Given as goal

-- some more fields were read, within the bytes that are allowed
abbrev pub invariant-fields : goal.invariant-fields
invariant-fields g l =
    LeadsOn l.initial.self l.self × (l.self.pull.failed ≡ false) × IsBounded l.self.pull l.self.stored
    × (l.initial.self.pull.taken ≤ l.most → l.self.pull.taken ≤ l.most)

abbrev pub decreases-fields : goal.decreases-fields
decreases-fields g l = 2 * (limit - l.self.pull.taken) + weight l.self.place
