use Rattle.ssh_key.proofs.Keys.{key_found, key_again}
use Rattle.ssh_key.proofs.laws.read_where_spelled.Goals as goal

pub returns : goal.returns
returns c = λ blob key bytes. (key_found blob key bytes, key_again blob key)
