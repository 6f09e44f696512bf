-- Each proper prefix of its string is short.
use Rattle.ssh_wire.proofs.TruncatedFields.{mpint-cut}
use Rattle.ssh_wire.proofs.laws.cut_mpint_is_short.Goals as goal

pub returns : goal.returns
returns c = mpint-cut
