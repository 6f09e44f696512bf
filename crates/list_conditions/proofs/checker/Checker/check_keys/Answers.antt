-- The file is audited, and the counts are checked.
use Rattle.std.proofs.Common.{◌≡◌, ◌∙◌, None, ap, subst}
use Rattle.std.proofs.lemmas.Result.{err_from_is_err_and}
use Rattle.run_output.specs.Carries.{Carries}
use Rattle.krl_entries.specs.Reasons.{reasons_of}
use Rattle.audit_text.specs.Answer.{unexplained}
use Rattle.audit_text.specs.declared.format.Format.{Format}
use Rattle.krl_audit.specs.declared.judge.Judge.{Judge}
use Rattle.krl_audit.proofs.Canaries.{answers_as_meant}
use Rattle.list_conditions.proofs.Checking.{counted, stopped}
use Rattle.list_conditions.proofs.checker.Checker.check_keys.Goals as goal

pub returns-in_err-audit_file-clause-checks : goal.returns-in_err-audit_file-clause-checks
returns-in_err-audit_file-clause-checks g c =
    let p = err_from_is_err_and c.from_residual.result c.from_residual.ensures.1 in
    rw (p.1, p.2) (λ entries means. stopped c.args.self.now.auditor.judge.shown.format c.args.role _ _ _ _ _ _ _ _ _ _ _ c.shown-self.ensures.shown (c.in_err-audit_file.ensures.told (unexplained (reasons_of entries)) (answers_as_meant None c.args.self.now.auditor.judge.list.now None None entries None tt means tt)))

pub returns-clause-checks : goal.returns-clause-checks
returns-clause-checks g c = λ entries means.
    let form : c.audit_file.new.self.judge.shown.format ≡ c.args.self.now.auditor.judge.shown.format = ap (λ (judge : Judge). judge.shown.format) c.in_ok-audit_file.ensures.judge ∙ c.shown-self.ensures.form in
    counted c.args.self.now.auditor.judge.shown.format c.args.role _ _ _ _ _ _ _ _ _ _ _ _ c.shown-self.ensures.shown (c.in_ok-audit_file.ensures.told (unexplained (reasons_of entries)) (answers_as_meant None c.args.self.now.auditor.judge.list.now None None entries None tt means tt)) (rw form at c.check_counts.ensures.carries) c.check_counts.ensures.refused
