use Rattle.krl_runs.proofs.QueryRuns.{dump_first, nothing_first}
use Rattle.krl_runs.proofs.laws.contents_stand_first.Goals as goal

pub returns-clause-asked : goal.returns-clause-asked
returns-clause-asked c = dump_first

pub returns-clause-unasked : goal.returns-clause-unasked
returns-clause-unasked c = nothing_first
