-- The path leads to a directory, or to none.
use Rattle.std.proofs.Common.{◌∙◌, refl, sym}
use Rattle.audit_run.specs.Named.{before_name, directory, here}
use Rattle.audit_run.proofs.Inputs.{goes_went, went_as}
use Rattle.audit_run.proofs.named.audit_text.Goals as goal

pub returns-then-is_directory : goal.returns-then-is_directory
returns-then-is_directory g c = λ fits.
    let is = sym c.is_directory.ensures ∙ c.if-is_directory.true in
    went_as c.audit_directory.result _ _ _ _
    (λ whole v walk. directory c.look-found.result fits c.utf8.path c.look-found.ensures is walk) c.audit_directory.ensures

pub returns : goal.returns
returns g c = λ fits.
    let is = sym c.is_directory.ensures ∙ c.if-is_directory.false in
    goes_went c.audit_target.result _ _ _ _ (before_name refl refl)
    (λ whole v met. here c.look-found.result fits c.utf8.path c.look-found.ensures is met) (rw c.name_in.ensures at c.audit_target.ensures)
