-- There are no lines.
use Rattle.text_index.proofs.Indexed.{none_indexed}
use Rattle.text_index.proofs.indexing.TextIndex.new.Goals as goal

pub returns-clause-none : goal.returns-clause-none
returns-clause-none c = none_indexed _ c.new.ensures.items c.new-2.ensures
