use Rattle.krl_queries.proofs.TopicAmounts.{small_within}
use Rattle.krl_queries.proofs.laws.what_is_found_is_small.Goals as goal

pub returns : goal.returns
returns c = small_within
