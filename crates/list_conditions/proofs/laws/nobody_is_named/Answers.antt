-- Revocations that mean no names are nothing.
use Rattle.list_conditions.proofs.Nobody.{law}
use Rattle.list_conditions.proofs.laws.nobody_is_named.Goals as goal

pub returns : goal.returns
returns c = law
