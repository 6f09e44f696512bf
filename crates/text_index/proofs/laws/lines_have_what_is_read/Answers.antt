-- Both follow the lines.
use Rattle.text_index.proofs.Lines.{entries_are}
use Rattle.text_index.proofs.laws.lines_have_what_is_read.Goals as goal

pub returns : goal.returns
returns c = entries_are
