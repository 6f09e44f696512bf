-- The files that sshd reads were audited, and then what is given.
use Rattle.std.proofs.Common.{◌++◌, refl}
use Rattle.std.specs.Result.{result_err}
use Rattle.std.proofs.lemmas.Result.{err_from_is_err_and}
use Rattle.audit_run.specs.Run.{in_sought}
use Rattle.audit_run.proofs.Auditing.{by_then}
use Rattle.audit_run.proofs.SoughtFiles.{met_then}
use Rattle.audit_run.proofs.run.audit_met.Goals as goal

pub returns-in_err-audit_sought : goal.returns-in_err-audit_sought
returns-in_err-audit_sought g c =
    let p = err_from_is_err_and c.from_residual.result c.from_residual.ensures.1 in
    let went = c.in_err-audit_sought.ensures in
    rw (p.1, p.2) (record { visits = went.visits; is = in_sought refl went.is; audits = went.audits })

pub returns : goal.returns
returns g c =
    let first = c.in_ok-audit_sought.ensures in
    let rest = c.audit_given.ensures in
    record {
      visits = first.visits ++ rest.visits;
      is = met_then _ _ _ _ _ c.audit_given.result first.visits rest.visits first.is rest.is;
      audits = by_then first.visits rest.visits (result_err c.audit_given.result) _ _ _ first.audits rest.audits;
    }
