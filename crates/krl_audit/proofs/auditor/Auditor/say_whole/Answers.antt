-- The outcome is that the file is not read.
use Rattle.std.proofs.Common.{refl}
use Rattle.audit_lines.specs.Outcome.{Unread}
use Rattle.krl_audit.proofs.auditor.Auditor.say_whole.Goals as goal

pub returns-clause-told : goal.returns-clause-told
returns-clause-told g c = λ answers judges. c.say.ensures.told (Unread c.args.why) refl answers judges
