use Rattle.krl_make.proofs.OverLists.{update_keeps}
use Rattle.krl_make.proofs.laws.update_keeps_the_old_list.Goals as goal

pub returns : goal.returns
returns c = update_keeps
