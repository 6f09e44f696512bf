-- The status of a run that ended.
use Rattle.std.proofs.Common.{◌≡◌, ℕ, Bool, List, Option}
use Rattle.krl_keygen.specs.Ends.{EndsWith}
use Rattle.run_faults.specs.RunFault.{RunFault}
use Rattle.run_output.specs.Done.{Ends}
use Rattle.run_output.specs.Run.{Item}

pub ended : (items : List Item) (before after : Option (List ℕ)) (failed : Bool) (status other : ℕ) (fault : Option RunFault)
    → other ≡ status → Ends items before after failed status fault → EndsWith items other
ended items before after failed status other fault is ends =
    record { before = before; after = after; failed = failed; fault = fault; ends = rw is ends }
