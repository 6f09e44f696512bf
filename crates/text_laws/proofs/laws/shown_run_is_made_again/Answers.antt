use Rattle.text_laws.proofs.Printed.{run_merged}
use Rattle.text_laws.proofs.laws.shown_run_is_made_again.Goals as goal

pub returns : goal.returns
returns c = run_merged c.line_read_as_spelled.ensures.read
