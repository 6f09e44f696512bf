-- The magnitude is the bytes without the leading zero byte, if there is one.
use Rattle.ssh_wire.proofs.Magnitudes.{mpint-has}
use Rattle.ssh_wire.proofs.laws.mpint_has_magnitude.Goals as goal

pub returns : goal.returns
returns c = mpint-has
