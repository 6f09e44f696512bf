-- The model of the bytes is their list, so nothing is left to show.
use Rattle.std.proofs.Common.{refl}
use Rattle.ssh_wire.proofs.bytes.Bytes.from_vec.Goals as goal

pub returns : goal.returns
returns c = refl
