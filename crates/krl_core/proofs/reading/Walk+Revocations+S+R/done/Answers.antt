use Rattle.krl_core.proofs.Common.{all, HoldsAll, HoldsInScope}
use Rattle.krl_core.proofs.Lists.{holds_all, list_of_all, list_of_whole, same_holds_within}
use Rattle.krl_core.proofs.WholeLists.{of_all, whole_holds}
use Rattle.krl_core.proofs.reading.Walk+Revocations+S+R.done.Goals as goal

pub returns-clause-whole : goal.returns-clause-whole
returns-clause-whole g c = λ text fields h.
    whole_holds (HoldsInScope all) HoldsAll text _ _ (holds_all text _) (of_all _ _ (c.end-header.ensures.whole text fields h))

pub returns-clause-list : goal.returns-clause-list
returns-clause-list g c = λ text fields h.
    list_of_all text _ _ (list_of_whole (HoldsInScope all) text _ _ (same_holds_within all text _) (of_all _ _ (c.end-header.ensures.whole text fields h)))
