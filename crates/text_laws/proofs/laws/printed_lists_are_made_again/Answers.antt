use Rattle.text_laws.proofs.Printed.{printed_again, printed_merged, printed_none}
use Rattle.text_laws.proofs.laws.printed_lists_are_made_again.Goals as goal

pub returns-clause-merged : goal.returns-clause-merged
returns-clause-merged c = printed_merged c.line_read_as_spelled.ensures.read

pub returns-clause-same : goal.returns-clause-same
returns-clause-same c = printed_again c.line_read_as_spelled.ensures.read

pub returns-clause-none : goal.returns-clause-none
returns-clause-none c = printed_none
