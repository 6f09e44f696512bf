use Rattle.krl_format.proofs.OneSpelling.{spelled_once}
use Rattle.krl_format.proofs.laws.lists.one_spelling.Goals as goal

pub returns : goal.returns
returns c = spelled_once
