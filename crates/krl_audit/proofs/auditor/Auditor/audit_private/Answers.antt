-- The key is printed, and then the lines beside it, or the audit is stopped.
use Rattle.std.proofs.Common.{true, false, sym, ap, ◌∙◌}
use Rattle.std.proofs.lemmas.Result.{err_from_is_err_and}
use Rattle.audit_lines.specs.Front.{fronts_of, is_read_by_lines}
use Rattle.krl_audit.proofs.Files.{told_as, told_beside, told_private_stop}
use Rattle.krl_audit.proofs.Telling.{told_none}
use Rattle.krl_audit.proofs.auditor.Auditor.audit_private.Goals as goal

pub returns-in_err-tally-clause-told : goal.returns-in_err-tally-clause-told
returns-in_err-tally-clause-told g c =
    let p = err_from_is_err_and c.from_residual.result c.from_residual.ensures.1 in
    rw (p.1, p.2) (λ answers judges. told_private_stop answers _ c.args.name.now c.args.read_as.now c.args.text.now _ _ _ _ _ _ (c.in_err-tally.ensures.told answers judges))

pub returns-then-is_read_by_lines-clause-told : goal.returns-then-is_read_by_lines-clause-told
returns-then-is_read_by_lines-clause-told g c = λ answers judges.
    let later = rw c.in_ok-tally.ensures.judge at c.audit_rest.ensures.told in
    told_beside answers _ c.args.name.now c.args.read_as.now c.args.text.now c.of-fronts.result true _ _ _ _ _ _ _ _ (c.of-fronts.ensures ∙ ap fronts_of c.as_bytes.ensures.value)
    (sym (c.is_read_by_lines.ensures ∙ ap is_read_by_lines c.as_bytes-2.ensures.value) ∙ c.if-is_read_by_lines.true) (c.in_ok-tally.ensures.told answers judges) (later answers judges)

pub returns-in-None-clause-told : goal.returns-in-None-clause-told
returns-in-None-clause-told g c = λ answers judges.
    told_beside answers _ c.args.name.now c.args.read_as.now c.args.text.now c.of-fronts.result false _ _ _ _ _ _ _ _ (c.of-fronts.ensures ∙ ap fronts_of c.as_bytes.ensures.value)
    (sym (c.is_read_by_lines.ensures ∙ ap is_read_by_lines c.as_bytes-2.ensures.value) ∙ c.if-is_read_by_lines.false) (c.in_ok-tally.ensures.told answers judges)
    (told_as answers _ c.args.name.now _ _ _ _ _ _ _ _ (c.in-None.ensures.leads c.of-fronts.result) (told_none answers _ c.args.name.now _ _ _))

pub returns-in-Some-clause-told : goal.returns-in-Some-clause-told
returns-in-Some-clause-told g c = λ answers judges.
    let later = rw c.in_ok-tally.ensures.judge at c.audit_rest-in-Some.ensures.told in
    told_beside answers _ c.args.name.now c.args.read_as.now c.args.text.now c.of-fronts.result false _ _ _ _ _ _ _ _ (c.of-fronts.ensures ∙ ap fronts_of c.as_bytes.ensures.value)
    (sym (c.is_read_by_lines.ensures ∙ ap is_read_by_lines c.as_bytes-2.ensures.value) ∙ c.if-is_read_by_lines.false) (c.in_ok-tally.ensures.told answers judges)
    (told_as answers _ c.args.name.now _ _ _ _ _ _ _ _ (c.in-Some.ensures.leads c.of-fronts.result) (later answers judges))
