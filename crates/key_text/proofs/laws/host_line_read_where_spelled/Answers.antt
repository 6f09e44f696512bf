-- The reading function and the relation agree.
use Rattle.key_text.proofs.HostLines.{host_line_found, host_line_again}
use Rattle.key_text.proofs.laws.host_line_read_where_spelled.Goals as goal

pub returns-clause-read : goal.returns-clause-read
returns-clause-read c = host_line_again

pub returns-clause-spelled : goal.returns-clause-spelled
returns-clause-spelled c = host_line_found
