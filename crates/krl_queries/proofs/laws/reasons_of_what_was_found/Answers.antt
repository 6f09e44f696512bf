use Rattle.krl_queries.proofs.FoundReasons.{found_reasons}
use Rattle.krl_queries.proofs.laws.reasons_of_what_was_found.Goals as goal

pub returns : goal.returns
returns c topics found entries subject means asks = found_reasons topics found entries means subject asks
