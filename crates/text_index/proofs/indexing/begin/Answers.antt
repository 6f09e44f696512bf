-- Nothing but the current authority changes.
use Rattle.std.proofs.Common.{◌∙◌}
use Rattle.text_index.proofs.Lines.{begun}
use Rattle.text_index.proofs.indexing.begin.Goals as goal

pub returns-in-Ok : goal.returns-in-Ok
returns-in-Ok c = c.in-Ok.ensures.reads.1 ∙ begun c.args.standing.now
