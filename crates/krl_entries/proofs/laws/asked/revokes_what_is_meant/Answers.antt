use Rattle.krl_entries.proofs.RevokedTests.{revokes_meant}
use Rattle.krl_entries.proofs.laws.asked.revokes_what_is_meant.Goals as goal

pub returns : goal.returns
returns c r entries subject means = revokes_meant r entries means subject
