-- The path leads to a directory, or not.
use Rattle.std.proofs.Common.{◌≡◌, ◌∙◌, false, refl, rules, sym}
use Rattle.audit_run.specs.Named.{before_path, directory, is_input, waiting}
use Rattle.audit_run.proofs.Inputs.{goes_went, went_as}
use Rattle.audit_run.proofs.named.audit_named.Goals as goal

pub returns-then-is_directory-clause-named : goal.returns-then-is_directory-clause-named
returns-then-is_directory-clause-named g c =
    let other : is_input c.args.path.now ≡ false = search rules in
    let is = sym c.is_directory.ensures ∙ c.if-is_directory.true in
    went_as c.audit_directory.result _ _ _ _ (λ whole v walk. directory c.look-found.result other c.look-found.ensures is walk)
    c.audit_directory.ensures

pub returns-clause-named : goal.returns-clause-named
returns-clause-named g c =
    let other : is_input c.args.path.now ≡ false = search rules in
    let is = sym c.is_directory.ensures ∙ c.if-is_directory.false in
    goes_went c.audit_waiting.result _ _ _ _ (before_path refl refl)
    (λ whole v waits. waiting c.look-found.result other c.look-found.ensures is waits)
    (rw c.name_in-2.ensures at c.audit_waiting.ensures)
