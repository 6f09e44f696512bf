-- A proper prefix ends within the length or after it.
use Rattle.ssh_wire.proofs.TruncatedFields.{string-cut}
use Rattle.ssh_wire.proofs.laws.cut_string_is_short.Goals as goal

pub returns : goal.returns
returns c = string-cut
