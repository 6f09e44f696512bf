-- The text has no line feed, and a reader reads it.
use Rattle.json_lines.proofs.SingleLines.{read_back}
use Rattle.json_lines.proofs.laws.lines_are_read_back.Goals as goal

pub returns : goal.returns
returns c = read_back
