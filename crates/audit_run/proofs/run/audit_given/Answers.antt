-- There is a reader of names, or none.
use Rattle.std.proofs.Common.{refl}
use Rattle.std.proofs.lemmas.Result.{err_from_is_err_and}
use Rattle.audit_run.specs.Run.{no_list}
use Rattle.audit_run.proofs.run.audit_given.Goals as goal

pub returns-in_err-audit_paths : goal.returns-in_err-audit_paths
returns-in_err-audit_paths g c =
    let p = err_from_is_err_and c.from_residual.result c.from_residual.ensures.1 in
    let went = c.in_err-audit_paths.ensures in
    rw (p.1, p.2) (record { visits = went.visits; is = no_list (rw c.in_default.is refl) went.is; audits = went.audits })

pub returns-in_default : goal.returns-in_default
returns-in_default g c =
    let went = c.in_ok-audit_paths.ensures in
    record { visits = went.visits; is = no_list (rw c.in_default.is refl) went.is; audits = went.audits }

pub returns : goal.returns
returns g c = rw c.in-Some.is c.audit_both.ensures
