-- How the program ends, by its words (krl(1)).
use Rattle.std.specs.Prelude.{◌≡◌, ◌⊎◌, ℕ, List, Ok, Err}
use Rattle.krl_arguments.specs.Command.{IsCommand}
use Rattle.krl_arguments.specs.declared.task.Audit.{Audit}
use Rattle.krl_arguments.specs.declared.task.Check.{Check}
use Rattle.krl_arguments.specs.declared.task.Diff.{Diff}
use Rattle.krl_arguments.specs.declared.task.Logins.{Logins}
use Rattle.krl_arguments.specs.declared.task.Make.{Make}
use Rattle.krl_arguments.specs.declared.task.Show.{Show}
use Rattle.krl_arguments.specs.declared.task.Task.TheVariants as tasks
use Rattle.krl.specs.Audit.{IsAudited}
use Rattle.krl.specs.Logins.{IsSearched}
use Rattle.krl.specs.Make.{IsMade}
use Rattle.krl.specs.Runs.{IsChecked, IsCompared, IsShown}
use Rattle.option_table.specs.Fault.{command_fault_status}
use Rattle.option_table.specs.declared.fault.CommandFault.{CommandFault}

-- The task that the words ask for was done with this status, or they were refused.
pub data EndsKrl (FileFailed InputFailed : Type 0) (words : List (List ℕ)) (status : ℕ)
    : Type 0 where
  audited : (task : Audit) → IsCommand words (Ok (tasks.Audit task))
      → IsAudited FileFailed InputFailed task status → EndsKrl FileFailed InputFailed words status
  searched : (task : Logins) → IsCommand words (Ok (tasks.Logins task))
      → IsSearched InputFailed task status → EndsKrl FileFailed InputFailed words status
  checked : (task : Check) → IsCommand words (Ok (tasks.Check task)) → IsChecked task status
      → EndsKrl FileFailed InputFailed words status
  shown : (task : Show) → IsCommand words (Ok (tasks.Show task)) → IsShown task status
      → EndsKrl FileFailed InputFailed words status
  made : (task : Make) → IsCommand words (Ok (tasks.Make task))
      → (status ≡ 255) ⊎ ((status ≡ 0) × IsMade task) → EndsKrl FileFailed InputFailed words status
  compared : (task : Diff) → IsCommand words (Ok (tasks.Diff task)) → IsCompared task status
      → EndsKrl FileFailed InputFailed words status
  refused : (fault : CommandFault) → IsCommand words (Err fault)
      → (status ≡ command_fault_status fault) ⊎ (status ≡ 255)
      → EndsKrl FileFailed InputFailed words status
