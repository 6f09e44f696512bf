-- An allocation failed before anything was met.
use Rattle.std.proofs.lemmas.Result.{err_from_is_err_and}
use Rattle.audit_run.proofs.Auditing.{goes_nothing}
use Rattle.audit_run.proofs.named.refuse_name.Goals as goal

pub returns-in_err-shown : goal.returns-in_err-shown
returns-in_err-shown g c =
    let p = err_from_is_err_and c.from_residual.result c.from_residual.ensures.1 in
    rw (p.1, p.2) (goes_nothing _ _)
