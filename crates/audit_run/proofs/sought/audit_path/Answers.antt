-- The path is too long, no text, or leads to what sshd reads there.
use Rattle.std.proofs.Common.{◌∙◌, length, refl, sym}
use Rattle.std.proofs.lemmas.Bool.{ltb-false, ltb-true}
use Rattle.audit_run.specs.Sought.{before_path, here, long_name, no_text}
use Rattle.audit_run.proofs.Inputs.{goes_went}
use Rattle.audit_run.proofs.sought.audit_path.Goals as goal

pub front_of-requires : goal.front_of-requires
front_of-requires g c = ltb-true 4096 (length c.args.path.now) (sym c.is_too_long.ensures ∙ c.if-is_too_long.true)

pub returns-then-is_too_long : goal.returns-then-is_too_long
returns-then-is_too_long g c =
    let long = ltb-true 4096 (length c.args.path.now) (sym c.is_too_long.ensures ∙ c.if-is_too_long.true) in
    goes_went c.refuse_name.result _ _ _ _ (before_path refl refl) (λ whole v is. long_name long is)
    (rw c.front_of.ensures at c.refuse_name.ensures)

pub returns-in_default : goal.returns-in_default
returns-in_default g c =
    let fits = ltb-false 4096 (length c.args.path.now) (sym c.is_too_long.ensures ∙ c.if-is_too_long.false) in
    goes_went c.refuse_name-in_default.result _ _ _ _ (before_path refl refl)
    (λ whole v is. no_text fits c.in_default.ensures.cases.0 is) c.refuse_name-in_default.ensures

pub returns : goal.returns
returns g c =
    let fits = ltb-false 4096 (length c.args.path.now) (sym c.is_too_long.ensures ∙ c.if-is_too_long.false) in
    let text = c.in-Ok.ensures.cases.0 in
    goes_went c.audit_as_kind.result _ _ _ _ (before_path refl refl)
    (λ whole v is. here fits c.in-Ok.ensures.cases.1 (rw text at is)) c.audit_as_kind.ensures
