-- Some fields are left, and the first difference is in them.
use Rattle.std.proofs.Common.{◌+◌, ◌*◌, ℕ, List, length}
use Rattle.krl_format.proofs.LongestFronts.{weight}
use Rattle.krl_openssh.specs.Fields.{HasFields}
use Rattle.krl_openssh.proofs.Rows.{Remains}
use Rattle.krl_openssh.proofs.first.first_difference.Given as goal

abbrev pub invariant-fields : goal.invariant-fields
invariant-fields l = (fields : List (List ℕ)) → HasFields l.fn.list fields → Remains fields l.place l.rest

abbrev pub decreases-fields : goal.decreases-fields
decreases-fields l = 2 * length l.rest + weight l.place
