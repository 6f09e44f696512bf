-- Each authority that is held is named, and each that is named is held.
use Rattle.list_conditions.proofs.CountedAuthorities.{law}
use Rattle.list_conditions.proofs.laws.authorities_are_counted.Goals as goal

pub returns : goal.returns
returns c = law
