use Rattle.krl_core.proofs.Common.{◌*◌, ◌+◌, ◌-◌, length, Ok, ReadsSome}
use Rattle.krl_format.proofs.LongestFronts.{weight}
use Rattle.krl_core.proofs.buffered.read_each.Given as goal

-- the fields so far were read
abbrev pub invariant-fields : goal.invariant-fields
invariant-fields g l = ReadsSome l.bytes l.at (Ok (tt {0})) l.initial.place l.initial.stored l.place l.stored

abbrev pub decreases-fields : goal.decreases-fields
decreases-fields g l = 2 * (length l.bytes - l.at) + weight l.place
