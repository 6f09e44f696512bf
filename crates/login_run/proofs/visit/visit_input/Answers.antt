-- Standard input is read, or it is reported that it was not.
use Rattle.std.proofs.Common.{refl}
use Rattle.std.proofs.lemmas.Result.{err_from_is_err_and}
use Rattle.audit_lines.specs.declared.why.Refusal.TheVariants.{Read}
use Rattle.audit_run.specs.Reading.{InputFails, SomeFailed}
use Rattle.login_run.proofs.Visiting.{log_broken, log_failed, log_read, reader_fails}
use Rattle.login_run.proofs.visit.visit_input.Goals as goal

pub returns-in_err-audit_log : goal.returns-in_err-audit_log
returns-in_err-audit_log g c =
    let p = err_from_is_err_and c.from_residual.result c.from_residual.ensures.1 in
    rw (p.1, p.2) (log_broken (InputFails (SomeFailed g.I.Source.has_failed)) c.args.name.now _ _ _ _ _ _ c.in_err-audit_log.ensures)

pub returns-then-branch : goal.returns-then-branch
returns-then-branch g c = log_read (InputFails (SomeFailed g.I.Source.has_failed)) c.args.name.now _ _ _ (tt {0}) _ _ (rw c.if-branch.true at c.in_ok-audit_log.ensures)

pub returns : goal.returns
returns g c =
    let log = rw c.if-branch.false at c.in_ok-audit_log.ensures in
    log_failed (InputFails (SomeFailed g.I.Source.has_failed)) c.args.name.now _ _ _ Read c.refuse.result _ _ _ log (refl, (c.audit_log.new.reader, reader_fails c.args.name.now _ _ _ _ _ log)) c.refuse.ensures
