use Rattle.ssh_key.proofs.Numbers.{bits_hold}
use Rattle.ssh_key.proofs.laws.bits_hold_number.Goals as goal

pub returns : goal.returns
returns c = λ magnitude bytes. bits_hold magnitude bytes
