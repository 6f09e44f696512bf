use Rattle.krl_fingerprints.proofs.PrintedNames.{some_named}
use Rattle.krl_fingerprints.proofs.laws.fingerprints_are_named.Goals as goal

pub returns : goal.returns
returns c = some_named
