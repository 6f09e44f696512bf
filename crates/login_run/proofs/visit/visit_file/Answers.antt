-- The file is opened and read, or it is reported why not.
use Rattle.std.proofs.Common.{[], ◌∷◌, refl}
use Rattle.std.proofs.lemmas.Result.{err_from_is_err_and}
use Rattle.audit_run.specs.Fact.{Fails}
use Rattle.login_run.specs.Finding.{Nothing, place}
use Rattle.login_run.specs.Visits.{closed, opened, refused, unopened}
use Rattle.login_run.proofs.Telling.{tells_memory}
use Rattle.login_run.proofs.Visiting.{log_broken, log_failed, log_read}
use Rattle.login_run.proofs.visit.visit_file.Goals as goal

pub returns-in-Ok-Err : goal.returns-in-Ok-Err
returns-in-Ok-Err g c = record {
  findings = refused c.args.name.now c.in-Ok-Err.refusal;
  is = closed c.in-Ok-Err.refusal (rw c.in-Ok-Err.field-0-is at c.in-Ok-Err.ensures.closed) refl;
  tells = c.refuse.ensures;
}

pub returns-in-Err : goal.returns-in-Err
returns-in-Err g c = record {
  findings = place c.args.name.now 0 Nothing ∷ [];
  is = unopened tt refl;
  tells = tells_memory c.args.name.now (place c.args.name.now 0 Nothing) [] c.whole.result _ refl c.whole.ensures;
}

pub returns-in_err-audit_log : goal.returns-in_err-audit_log
returns-in_err-audit_log g c =
    let p = err_from_is_err_and c.from_residual.result c.from_residual.ensures.1 in
    let log = log_broken (λ refusal. g.T.Tree.states c.args.tree.now (Fails c.args.name.now refusal)) c.args.name.now _ _ _ _ _ _ c.in_err-audit_log.ensures in
    rw (p.1, p.2) (record { findings = log.findings; is = opened _ _ _ (rw c.in-Ok-Ok.field-0-is at c.in-Ok-Ok.ensures.opened) log.is; tells = log.tells })

pub returns-then-branch : goal.returns-then-branch
returns-then-branch g c =
    let log = log_read (λ refusal. g.T.Tree.states c.args.tree.now (Fails c.args.name.now refusal)) c.args.name.now _ _ _ (tt {0}) _ _ (rw c.if-branch.true at c.in_ok-audit_log.ensures) in
    record { findings = log.findings; is = opened _ _ _ (rw c.in-Ok-Ok.field-0-is at c.in-Ok-Ok.ensures.opened) log.is; tells = log.tells }

pub returns : goal.returns
returns g c =
    let log = log_failed (λ refusal. g.T.Tree.states c.args.tree.now (Fails c.args.name.now refusal)) c.args.name.now _ _ _ c.why_unread-refusal.result c.refuse-2.result _ _ _ (rw c.if-branch.false at c.in_ok-audit_log.ensures) c.why_unread-refusal.ensures c.refuse-2.ensures in
    record { findings = log.findings; is = opened _ _ _ (rw c.in-Ok-Ok.field-0-is at c.in-Ok-Ok.ensures.opened) log.is; tells = log.tells }
