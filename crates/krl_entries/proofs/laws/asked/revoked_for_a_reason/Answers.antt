use Rattle.krl_entries.proofs.ReasonTests.{any_is_revoked, reason_of_revoked}
use Rattle.krl_entries.proofs.laws.asked.revoked_for_a_reason.Goals as goal

pub returns-clause-reason : goal.returns-clause-reason
returns-clause-reason c = reason_of_revoked

pub returns-clause-tested : goal.returns-clause-tested
returns-clause-tested c = any_is_revoked
