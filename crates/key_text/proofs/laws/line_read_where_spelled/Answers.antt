-- The reading function and the relation agree.
use Rattle.key_text.proofs.LineLaws.{line_found, line_again}
use Rattle.key_text.proofs.laws.line_read_where_spelled.Goals as goal

pub returns-clause-read : goal.returns-clause-read
returns-clause-read c = line_again

pub returns-clause-spelled : goal.returns-clause-spelled
returns-clause-spelled c = line_found
