-- Both lists are read and compared, or one is refused.
use Rattle.std.proofs.Common.{refl}
use Rattle.any_list.proofs.Telling.{tells_as}
use Rattle.show_run.specs.Changes.{AreCompared, IsUncompared}
use Rattle.show_run.specs.Comparison.{compared, refused}
use Rattle.show_run.proofs.comparison.diff_run.Goals as goal

pub returns-in-Ok : goal.returns-in-Ok
returns-in-Ok g c =
    let printed = c.print_changes.ensures in
    let changes = c.in-Ok.changes in
    let comparison = c.args.comparison in
    tells_as (λ told. AreCompared told comparison.old.now comparison.new.now changes) _ _ _
    (λ told is.
    let read = is.read in
    let law = c.same_without_difference.ensures is.before.revocations is.after.revocations changes.added changes.removed read.is_before.entries read.is_after.entries read.is_before.means read.is_after.means is.are.added is.are.removed in
    compared is.before is.after read (record {
      changes = changes;
      are = is.are;
      same = printed.same;
      same_is = (λ h. law.1 (printed.same_is.0 h), λ h. printed.same_is.1 (law.0 h));
      ends = printed.ends;
      status_is = printed.status_is;
    })) c.in-Ok.ensures.found

pub returns-in-Err : goal.returns-in-Err
returns-in-Err g c =
    let comparison = c.args.comparison in
    tells_as (λ told. IsUncompared told comparison.old.now comparison.new.now c.in-Err.fault) _ _ _ (λ told is. refused c.in-Err.fault is refl refl refl c.requires) c.in-Err.ensures.fault
