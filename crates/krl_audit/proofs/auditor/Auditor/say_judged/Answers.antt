-- The line was made, and printed if it is to be printed.
use Rattle.audit_lines.specs.Outcome.{in_column}
use Rattle.krl_audit.proofs.Telling.{says_made}
use Rattle.krl_audit.proofs.auditor.Auditor.say_judged.Goals as goal

pub returns-clause-said : goal.returns-clause-said
returns-clause-said g c = λ given gives answers judges.
    says_made answers _ c.args.at.name.now (in_column c.args.at.number c.args.column given) c.in-Ok.made.kind c.in-Ok.made.said _ _ _ _ (c.in-Ok.ensures answers judges given gives) c.in_ok-say_made.ensures
