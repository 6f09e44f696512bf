use Rattle.krl_format.proofs.Layouts.{authority_spelled, authority_spells}
use Rattle.krl_format.proofs.laws.layout.authority_is_these_bytes.Goals as goal

pub returns-clause-spelled : goal.returns-clause-spelled
returns-clause-spelled c = authority_spelled

pub returns-clause-spells : goal.returns-clause-spells
returns-clause-spells c = authority_spells
