use Rattle.krl_words.proofs.Parts.{divided}
use Rattle.krl_words.proofs.laws.files_between_authorities_are_found.Goals as goal

pub returns : goal.returns
returns c = divided
