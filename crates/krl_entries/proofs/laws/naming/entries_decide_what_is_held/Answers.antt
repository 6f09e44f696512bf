use Rattle.krl_entries.proofs.OneMeaning.{one_meaning}
use Rattle.krl_entries.proofs.laws.naming.entries_decide_what_is_held.Goals as goal

pub returns : goal.returns
returns c r other entries m n = one_meaning r other entries m n
