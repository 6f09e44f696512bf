use Rattle.ssh_key.proofs.Keys.{only_blob}
use Rattle.ssh_key.proofs.laws.one_blob.Goals as goal

pub returns : goal.returns
returns c = λ a b k l bytes_a bytes_b. only_blob a b k l bytes_a bytes_b
