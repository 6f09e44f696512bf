-- The test and the relation are the same.
use Rattle.text_entries.proofs.OneOff.{off_again, off_found}
use Rattle.text_entries.proofs.one_off.one_off_where_spelled.Goals as goal

pub returns : goal.returns
returns c = λ left right. (off_found left right, off_again left right)
