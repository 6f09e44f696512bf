use Rattle.ssh_key.proofs.Keys.{only_key}
use Rattle.ssh_key.proofs.laws.one_key.Goals as goal

pub returns : goal.returns
returns c = only_key
