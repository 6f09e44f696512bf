-- A whole comparison: what it prints, and how it ends.
use Rattle.std.specs.Prelude.{◌≡◌, ◌↔◌, ℕ, Bool, true, false, List, Option, Some, None}
use Rattle.run_faults.specs.RunFault.{RunFault}
use Rattle.run_output.specs.Done.{EndsWith}
use Rattle.krl_types.specs.Entry.{Entry}
use Rattle.krl_types.specs.Naming.{NamesSame}
use Rattle.any_list.specs.Told.{Reading}
use Rattle.any_list.specs.declared.list.List.{List as ListOf}
use Rattle.show_run.specs.Changes.{AreChanges, AreRead, IsUncompared, IsUnchanged}
use Rattle.show_run.specs.ChangeLines.{change_items}
use Rattle.show_run.specs.declared.changes.Changes.{Changes}
use Rattle.show_run.specs.declared.comparison.Comparison.{Comparison}

-- the exit status: 255 after a fault, otherwise 0 if both lists name the same, and 1 if not
abbrev pub status_of : (same : Bool) → Option RunFault → ℕ
status_of same (Some stop) = 255
status_of true None = 0
status_of false None = 1

-- The lines of the changes were printed, or the run was stopped within them.
pub record EndsPrinted (comparison : Comparison) (changes : Changes)
    (before after : Option (List ℕ)) (failed : Bool) (status : ℕ) (fault : Option RunFault)
    : Type 0 where
  pub same : Bool
  pub same_is : same ≡ true ↔ IsUnchanged changes
  pub ends : EndsWith (change_items comparison changes) before after failed fault
  pub status_is : status ≡ status_of same fault

-- Two lists that name these entries were compared: the lines of their changes were printed, or the
-- run was stopped within them. The status is 0 exactly where the entries name the same.
pub record EndsCompared (comparison : Comparison) (old new : ListOf) (olds news : List Entry)
    (before after : Option (List ℕ)) (failed : Bool) (status : ℕ) (fault : Option RunFault)
    : Type 0 where
  pub changes : Changes
  pub are : AreChanges old.revocations new.revocations changes
  pub same : Bool
  pub same_is : same ≡ true ↔ NamesSame olds news
  pub ends : EndsWith (change_items comparison changes) before after failed fault
  pub status_is : status ≡ status_of same fault

-- Both files were read once each, the old one first, and the lists that their bytes are were
-- compared; or one was not read or is refused, and nothing was printed.
pub data EndsDiffRun (told : List Reading) (comparison : Comparison)
    (before after : Option (List ℕ)) (failed : Bool) (status : ℕ) (fault : Option RunFault)
    : Type 0 where
  compared : (old new : ListOf)
      → (read : AreRead told comparison.old.now comparison.new.now old new)
      → EndsCompared comparison old new read.is_before.entries read.is_after.entries before after
      failed status fault
      → EndsDiffRun told comparison before after failed status fault
  refused : (stop : RunFault) → IsUncompared told comparison.old.now comparison.new.now stop
      → fault ≡ Some stop → status ≡ 255 → after ≡ before → failed ≡ false
      → EndsDiffRun told comparison before after failed status fault
