-- The value that was taken is spelled by the bytes, and each spelling is read.
use Rattle.std.proofs.Common.{ap, ◌∙◌}
use Rattle.ssh_wire.specs.Reading.{mpint_at}
use Rattle.ssh_wire.proofs.Fields.{mpint_takes, mpint_again}
use Rattle.ssh_wire.proofs.laws.mpint_is_read_back.Goals as goal

pub returns : goal.returns
returns c = λ bytes magnitude rest fits. (
  λ read. let taken = mpint_takes bytes magnitude rest fits read in (taken.0.parts, (taken.1, taken.2)),
  λ spelled. ap mpint_at spelled.0 ∙ mpint_again magnitude rest spelled.1.0 spelled.1.1,
)
