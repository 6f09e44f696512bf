-- The lines are printed, and then how many more there are of each kind.
use Rattle.std.proofs.lemmas.Result.{err_from_is_err_and}
use Rattle.krl_audit.specs.Audit.{name_by}
use Rattle.krl_audit.proofs.Files.{told_file, told_file_stop}
use Rattle.krl_audit.proofs.auditor.Auditor.audit_file.Goals as goal

pub returns-in_err-tally-clause-told : goal.returns-in_err-tally-clause-told
returns-in_err-tally-clause-told g c =
    let p = err_from_is_err_and c.from_residual.result c.from_residual.ensures.1 in
    rw (p.1, p.2) (λ answers judges. told_file_stop answers _ (name_by c.args.name) _ _ _ _ _ _ _ (c.in_err-tally.ensures.told answers judges))

pub returns-clause-told : goal.returns-clause-told
returns-clause-told g c = λ answers judges.
    let rest = rw c.in_ok-tally.ensures.judge at c.say_rest.ensures.said in
    rw c.say_rest.ensures.counts (told_file answers _ (name_by c.args.name) _ c.in_ok-tally.tally _ _ _ _ _ _ (c.in_ok-tally.ensures.told answers judges) rest)
