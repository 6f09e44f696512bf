use Rattle.ssh_key.proofs.Layouts.{key_spelled, key_spells}
use Rattle.ssh_key.proofs.laws.key_is_these_bytes.Goals as goal

pub returns : goal.returns
returns c = λ blob key. (key_spelled blob key, key_spells blob key)
