use Rattle.login_lines.proofs.EscapeLaws.{one_reading, syslog_read, terminal_read}
use Rattle.login_lines.proofs.laws.escapes_are_read.Goals as goal

pub returns-clause-terminal : goal.returns-clause-terminal
returns-clause-terminal c = terminal_read

pub returns-clause-syslog : goal.returns-clause-syslog
returns-clause-syslog c = syslog_read

pub returns-clause-one : goal.returns-clause-one
returns-clause-one c = one_reading
