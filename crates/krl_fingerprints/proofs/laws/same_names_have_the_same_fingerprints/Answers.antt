use Rattle.krl_fingerprints.proofs.PrintedNames.{same_printed}
use Rattle.krl_fingerprints.proofs.laws.same_names_have_the_same_fingerprints.Goals as goal

pub returns : goal.returns
returns c = same_printed
