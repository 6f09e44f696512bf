use Rattle.krl_entries.proofs.RevokedTests.{revoked_tested}
use Rattle.krl_entries.proofs.laws.asked.revokes_what_is_named.Goals as goal

pub returns : goal.returns
returns c entries subject = revoked_tested entries subject
