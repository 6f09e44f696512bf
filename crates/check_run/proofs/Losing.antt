-- The entries of another list that a list lacks.
use Rattle.std.proofs.Common.{◌≡◌, ℕ, Bool, true, false, List, Result, Some}
use Rattle.run_faults.specs.RunFault.{RunFault}
use Rattle.run_output.specs.Printer.{Printer}
use Rattle.krl_types.specs.Entry.{Entry}
use Rattle.audit_text.specs.declared.format.Format.{Format}
use Rattle.list_conditions.specs.Check.{condition_items, names_nobody}
use Rattle.list_conditions.specs.declared.condition.Condition.TheVariants.{NothingLost}
use Rattle.krl_entries.specs.Revocations.{Means, Revocations}
use Rattle.list_diff.specs.Without.{HoldsWithout}
use Rattle.check_run.specs.Lists.{Checks}
use Rattle.check_run.specs.Losses.{AreLost, lost_items, losses_fail, losses_items}
use Rattle.check_run.specs.declared.lists.Lost.{Lost}

pub all_lost : (held other lost : Revocations) (own others : List Entry) → Means held own → Means other others → HoldsWithout held other lost → AreLost own others lost
all_lost held other lost own others m n is = record {
  orderly = is.orderly;
  names = λ name. (
    λ h. let both = (is.names name).0 h in ((n.names name).0 both.0, λ named. both.1 ((m.names name).1 named)),
    λ h. (is.names name).1 ((n.names name).1 h.0, λ also. h.1 ((m.names name).0 also)),
  );
}

-- whether something is lost decides what is said
pub nothing_lost : (form : Format) (name : List ℕ) (lost : Lost) (result : Result (Unit {0}) RunFault) (old new : Printer) (before after : Bool) → names_nobody lost.held ≡ true
    → Checks (condition_items form name (NothingLost lost.name)) false result old new before after → Checks (losses_items form name (Some lost)) (losses_fail (Some lost)) result old new before after
nothing_lost form name lost result old new before after is checks = rw is checks

pub some_lost : (form : Format) (name : List ℕ) (lost : Lost) (result : Result (Unit {0}) RunFault) (old new : Printer) (before after : Bool) → names_nobody lost.held ≡ false
    → Checks (lost_items form name lost) true result old new before after → Checks (losses_items form name (Some lost)) (losses_fail (Some lost)) result old new before after
some_lost form name lost result old new before after is checks = rw is checks
