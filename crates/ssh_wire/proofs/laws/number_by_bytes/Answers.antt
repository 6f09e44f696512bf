-- The weight of the first byte is the number of values of the other bytes.
use Rattle.std.proofs.Common.{refl}
use Rattle.ssh_wire.specs.Wire.{number_of}
use Rattle.ssh_wire.proofs.Magnitudes.{number_of-cons}
use Rattle.ssh_wire.proofs.laws.number_by_bytes.Goals as goal

pub returns : goal.returns
unfolding number_of
returns c = record { none = refl; more = number_of-cons }
