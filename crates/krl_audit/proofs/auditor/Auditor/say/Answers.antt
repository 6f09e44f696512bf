-- The line is printed if it is to be printed, or the audit is stopped at it.
use Rattle.std.proofs.lemmas.Result.{err_from_is_err_and}
use Rattle.audit_lines.specs.Outcome.{in_column}
use Rattle.krl_audit.proofs.Telling.{told_said, told_stopped}
use Rattle.krl_audit.proofs.auditor.Auditor.say.Goals as goal

pub returns-in_err-kind-clause-told : goal.returns-in_err-kind-clause-told
returns-in_err-kind-clause-told g c =
    let p = err_from_is_err_and c.from_residual.result c.from_residual.ensures.1 in
    let said = rw c.within-shown.ensures at c.in_err-kind.ensures.said in
    rw (p.1, p.2) (λ given gives answers judges. told_stopped answers _ c.args.at.name.now c.args.tally (in_column c.args.at.number c.args.column given) _ _ _ _ _ (said given gives answers judges))

pub returns-clause-told : goal.returns-clause-told
returns-clause-told g c = λ given gives answers judges.
    let said = rw c.within-shown.ensures at c.in_ok-kind.ensures.said in
    let counts = rw c.in_ok-kind.ensures.counts at c.with-self.ensures in
    told_said answers _ c.args.at.name.now c.args.tally (in_column c.args.at.number c.args.column given) c.in_ok-kind.kind _ _ _ _ _ (said given gives answers judges) counts c.with.ensures
