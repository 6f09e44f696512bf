-- The names of a reader were audited, and then the paths that are named.
use Rattle.std.proofs.Common.{◌++◌, Some, None, refl}
use Rattle.std.proofs.lemmas.Result.{err_from_is_err_and}
use Rattle.audit_run.specs.Run.{after_names, in_names}
use Rattle.audit_run.proofs.Auditing.{by_then}
use Rattle.audit_run.proofs.run.audit_both.Goals as goal

pub returns-in_err-is_whole : goal.returns-in_err-is_whole
returns-in_err-is_whole g c =
    let p = err_from_is_err_and c.from_residual.result c.from_residual.ensures.1 in
    let went = c.in_err-is_whole.ensures.names in
    rw (p.1, p.2) (record { visits = went.visits; is = in_names _ refl refl went.is; audits = went.audits })

pub returns-in_err-audit_paths : goal.returns-in_err-audit_paths
returns-in_err-audit_paths g c =
    let p = err_from_is_err_and c.from_residual-in_err-audit_paths.result c.from_residual-in_err-audit_paths.ensures.1 in
    let first = c.in_ok-is_whole.ensures.names in
    let rest = c.in_err-audit_paths.ensures in
    rw (p.1, p.2) (record {
      visits = first.visits ++ rest.visits;
      is = after_names _ first.visits rest.visits refl (rw c.if-is_whole.true at first.is) rest.is refl;
      audits = by_then first.visits rest.visits (Some c.in_err-audit_paths.field-0.0) _ _ _ first.audits rest.audits;
    })

pub returns-in_ok-audit_paths : goal.returns-in_ok-audit_paths
returns-in_ok-audit_paths g c =
    let first = c.in_ok-is_whole.ensures.names in
    let rest = c.in_ok-audit_paths.ensures in
    record {
      visits = first.visits ++ rest.visits;
      is = after_names _ first.visits rest.visits refl (rw c.if-is_whole.true at first.is) rest.is refl;
      audits = by_then first.visits rest.visits None _ _ _ first.audits rest.audits;
    }
