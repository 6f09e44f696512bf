-- The first line is printed, and then those after it, or the audit is stopped.
use Rattle.std.proofs.Common.{[]}
use Rattle.std.proofs.lemmas.Result.{err_from_is_err_and}
use Rattle.key_text.specs.Lines.{lines_left}
use Rattle.audit_lines.specs.Outcome.{place_all, placed_from, read_all}
use Rattle.krl_audit.specs.Tally.{none_yet}
use Rattle.krl_audit.proofs.Telling.{told_none, told_stop, told_then}
use Rattle.krl_audit.proofs.auditor.Auditor.audit_from.Goals as goal

pub returns-in_err-tally-clause-told : goal.returns-in_err-tally-clause-told
returns-in_err-tally-clause-told g c =
    let p = err_from_is_err_and c.from_residual.result c.from_residual.ensures.1 in
    rw (p.1, p.2) (λ given gives answers judges. told_stop answers _ c.args.name.now none_yet (place_all 1 given) (placed_from 2 (read_all c.args.fronts (lines_left c.args.after))) _ _ _ _ _ _ (c.in_err-tally.ensures.told given gives answers judges))

pub returns-in-None-clause-told : goal.returns-in-None-clause-told
returns-in-None-clause-told g c =
    rw c.in-None.is (λ given gives answers judges. told_then answers _ c.args.name.now none_yet (place_all 1 given) [] _ _ _ _ _ _ _ _ (c.in_ok-tally.ensures.told given gives answers judges) (told_none answers _ c.args.name.now _ _ _))

pub returns-in-Some-clause-told : goal.returns-in-Some-clause-told
returns-in-Some-clause-told g c =
    let later = rw c.in_ok-tally.ensures.judge at c.audit_rest.ensures.told in
    rw c.in-Some.is (λ given gives answers judges. told_then answers _ c.args.name.now none_yet (place_all 1 given) _ _ _ _ _ _ _ _ _ (c.in_ok-tally.ensures.told given gives answers judges) (later answers judges))
