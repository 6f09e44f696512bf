-- The outcomes are those of the line, or an allocation failed.
use Rattle.audit_lines.specs.Outcome.{outcomes_of}
use Rattle.krl_audit.proofs.auditor.Auditor.say_line.Goals as goal

pub returns-in-Ok-clause-told : goal.returns-in-Ok-clause-told
returns-in-Ok-clause-told g c = λ answers judges. c.say_all.ensures.told (outcomes_of c.args.fronts c.args.line.now) c.in-Ok.ensures answers judges
