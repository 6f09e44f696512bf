use Rattle.ssh_key.proofs.Names.{certificate_name-injective, names_apart, type_name-injective}
use Rattle.ssh_key.proofs.laws.names_differ.Goals as goal

pub returns-clause-plain : goal.returns-clause-plain
returns-clause-plain c = type_name-injective

pub returns-clause-certified : goal.returns-clause-certified
returns-clause-certified c = certificate_name-injective

pub returns-clause-apart : goal.returns-clause-apart
returns-clause-apart c = names_apart
