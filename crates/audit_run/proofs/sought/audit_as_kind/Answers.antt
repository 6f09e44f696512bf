-- There was no memory for the name of the command.
use Rattle.std.proofs.lemmas.Result.{err_from_is_err_and}
use Rattle.audit_run.proofs.Auditing.{goes_nothing}
use Rattle.audit_run.proofs.sought.audit_as_kind.Goals as goal

pub returns-in_err-name-in-Command : goal.returns-in_err-name-in-Command
returns-in_err-name-in-Command g c =
    let p = err_from_is_err_and c.from_residual.result c.from_residual.ensures.1 in
    rw (p.1, p.2) (goes_nothing _ _)
