-- The value that was taken is spelled by the bytes, and each spelling is read.
use Rattle.std.proofs.Common.{ap, ◌∙◌}
use Rattle.ssh_wire.specs.Reading.{string_at}
use Rattle.ssh_wire.proofs.Fields.{string_takes, string_again}
use Rattle.ssh_wire.proofs.laws.string_is_read_back.Goals as goal

pub returns : goal.returns
returns c = λ bytes text rest fits. (
  λ read. let taken = string_takes bytes text rest fits read in (taken.0.parts, taken.1),
  λ spelled. ap string_at spelled.0 ∙ string_again text rest spelled.1,
)
