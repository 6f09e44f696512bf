-- The public key has a file of its own, or is that of the private key file.
use Rattle.std.proofs.Common.{◌∙◌, sym}
use Rattle.std.proofs.lemmas.Result.{err_from_is_err_and}
use Rattle.audit_run.specs.Sought.{private, public}
use Rattle.audit_run.proofs.Auditing.{goes_as, goes_nothing}
use Rattle.audit_run.proofs.sought.audit_host_key.Goals as goal

pub returns-in_err-public : goal.returns-in_err-public
returns-in_err-public g c =
    let p = err_from_is_err_and c.from_residual.result c.from_residual.ensures.1 in
    rw (p.1, p.2) (goes_nothing _ _)

pub returns-then-is_missing : goal.returns-then-is_missing
returns-then-is_missing g c =
    let path = c.as_str-beside.ensures.value ∙ c.in_ok-public.ensures in
    let looks = rw path at c.look-found.ensures in
    goes_as c.audit_at.result _ _ _ _
    (λ visits is. private c.look-found.result looks (sym c.is_missing.ensures ∙ c.if-is_missing.true) is) c.audit_at.ensures

pub returns : goal.returns
returns g c =
    let path = c.as_str-beside.ensures.value ∙ c.in_ok-public.ensures in
    let looks = rw path at c.look-found.ensures in
    goes_as c.audit_there.result _ _ _ _
    (λ visits is. public c.look-found.result looks (sym c.is_missing.ensures ∙ c.if-is_missing.false) is)
    (rw path at c.audit_there.ensures)
