use Rattle.login_lines.proofs.LineLaws.{login_not_skipped, other_skipped}
use Rattle.login_lines.proofs.laws.other_messages_are_skipped.Goals as goal

pub returns-clause-skipped : goal.returns-clause-skipped
returns-clause-skipped c = other_skipped

pub returns-clause-logins : goal.returns-clause-logins
returns-clause-logins c = login_not_skipped
