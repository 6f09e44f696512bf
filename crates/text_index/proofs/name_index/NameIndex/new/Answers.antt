-- There are no postings.
use Rattle.text_index.proofs.Gathered.{no_numbers}
use Rattle.text_index.proofs.name_index.NameIndex.new.Goals as goal

pub returns : goal.returns
returns c = no_numbers _ c.new.ensures.empty
