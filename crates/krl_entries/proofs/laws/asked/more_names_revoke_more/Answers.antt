use Rattle.krl_entries.proofs.MoreNames.{revoked_by_more, revoked_by_same}
use Rattle.krl_entries.proofs.laws.asked.more_names_revoke_more.Goals as goal

pub returns-clause-more : goal.returns-clause-more
returns-clause-more c = revoked_by_more

pub returns-clause-same : goal.returns-clause-same
returns-clause-same c = revoked_by_same
