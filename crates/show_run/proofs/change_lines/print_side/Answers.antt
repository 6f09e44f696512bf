-- Everything that is held is printed and counted, or ends the run.
use Rattle.std.proofs.lemmas.Result.{err_from_is_err_and}
use Rattle.std.proofs.Common.{refl}
use Rattle.run_output.proofs.RunParts.{carries_as}
use Rattle.list_text.specs.declared.counts.Counts.{Counts}
use Rattle.show_run.proofs.change_lines.print_side.Goals as goal

pub returns-in_err-show_held-clause-carries : goal.returns-in_err-show_held-clause-carries
returns-in_err-show_held-clause-carries g c =
    let p = err_from_is_err_and c.from_residual.result c.from_residual.ensures.1 in
    rw (p.1, p.2) (carries_as {A = Unit {0}} {B = Counts} _ _ _ _ _ refl (rw c.side_form.ensures at c.in_err-show_held.ensures.carries))

pub returns-clause-carries : goal.returns-clause-carries
returns-clause-carries g c = carries_as {A = Unit {0}} {B = Counts} _ _ _ _ _ refl (rw c.side_form.ensures at c.in_ok-show_held.ensures.carries)

pub returns-clause-counts : goal.returns-clause-counts
returns-clause-counts g c = c.in_ok-show_held.ensures.count
