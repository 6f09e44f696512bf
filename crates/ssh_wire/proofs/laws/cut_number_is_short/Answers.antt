-- Each proper prefix is shorter than the number.
use Rattle.ssh_wire.proofs.TruncatedFields.{number-cut}
use Rattle.ssh_wire.proofs.laws.cut_number_is_short.Goals as goal

pub returns : goal.returns
returns c = number-cut
