use Rattle.text_run.proofs.Updated.{update_kept}
use Rattle.text_run.proofs.laws.update_keeps_the_old_list.Goals as goal

pub returns : goal.returns
returns c = update_kept
