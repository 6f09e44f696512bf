use Rattle.krl_entries.proofs.Common.{◌∙◌, any_reason, ap, revokes}
use Rattle.krl_entries.proofs.RevokedTests.{answer_meant}
use Rattle.krl_entries.proofs.revocations.Revocations.query.Goals as goal

pub returns-clause-tested : goal.returns-clause-tested
unfolding revokes
returns-clause-tested g c = c.any.ensures ∙ ap any_reason c.reasons.ensures.tested

pub returns-clause-revoked : goal.returns-clause-revoked
returns-clause-revoked g c entries m = answer_meant _ entries m _ _ (returns-clause-tested g c)
