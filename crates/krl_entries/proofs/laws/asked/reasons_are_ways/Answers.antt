use Rattle.krl_entries.proofs.ReasonTests.{reasons_named}
use Rattle.krl_entries.proofs.laws.asked.reasons_are_ways.Goals as goal

pub returns : goal.returns
returns c = reasons_named
