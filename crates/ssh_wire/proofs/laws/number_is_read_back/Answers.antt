-- The value that was taken is spelled by the bytes, and each spelling is read.
use Rattle.std.proofs.Common.{ap, ◌∙◌}
use Rattle.ssh_wire.specs.Reading.{number_at}
use Rattle.ssh_wire.proofs.Fields.{number_takes, number_again}
use Rattle.ssh_wire.proofs.laws.number_is_read_back.Goals as goal

pub returns : goal.returns
returns c = λ k bytes n rest fits. (
  λ read. let taken = number_takes k bytes n rest fits read in (taken.0.parts, taken.1),
  λ spelled. ap (number_at k) spelled.0 ∙ number_again k n rest spelled.1,
)
