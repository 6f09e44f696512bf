use Rattle.krl_format.proofs.Layouts.{header_spelled, header_spells}
use Rattle.krl_format.proofs.laws.layout.header_is_these_bytes.Goals as goal

pub returns-clause-spelled : goal.returns-clause-spelled
returns-clause-spelled c = header_spelled

pub returns-clause-spells : goal.returns-clause-spells
returns-clause-spells c = header_spells
