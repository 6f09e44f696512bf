use Rattle.krl_make.proofs.MadeLists.{held_paid}
use Rattle.krl_make.proofs.laws.held_is_paid.Goals as goal

pub returns : goal.returns
returns c = held_paid
