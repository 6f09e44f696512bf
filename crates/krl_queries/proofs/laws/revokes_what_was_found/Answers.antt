use Rattle.krl_queries.proofs.FoundReasons.{found_tested}
use Rattle.krl_queries.proofs.laws.revokes_what_was_found.Goals as goal

pub returns : goal.returns
returns c topics found entries subject means asks = found_tested topics found entries means subject asks
