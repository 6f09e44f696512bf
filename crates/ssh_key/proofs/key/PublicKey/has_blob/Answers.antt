use Rattle.ssh_key.proofs.Keys.{read_is_key}
use Rattle.ssh_key.proofs.key.PublicKey.has_blob.Goals as goal

pub returns : goal.returns
returns c = rw (← c.self.view_is) (read_is_key _ c.are_bytes.ensures c.self.invariant)
