-- The test finds the reason.
use Rattle.text_index.proofs.Meant.{explains_meant}
use Rattle.text_index.proofs.laws.lines_give_reasons.Goals as goal

pub returns : goal.returns
returns c = explains_meant
