use Rattle.text_laws.proofs.MadeLists.{made_again, merged}
use Rattle.text_laws.proofs.laws.shown_lists_are_made_again.Goals as goal

pub returns-clause-merged : goal.returns-clause-merged
returns-clause-merged c names lists wanted is_file name bytes contents are shown made = merged names are lists wanted is_file name bytes contents shown made

pub returns-clause-same : goal.returns-clause-same
returns-clause-same c names list wanted is_file name bytes contents are shown made = made_again names are list wanted is_file name bytes contents shown made
