use Rattle.krl_entries.proofs.Common.{all, on_ok_weaker}
use Rattle.krl_entries.proofs.AddedMeaning.{means_more_within}
use Rattle.krl_entries.proofs.store.RevocationsStore.store.Goals as goal

pub returns-clause-means : goal.returns-clause-means
returns-clause-means g c = on_ok_weaker c.add.result (means_more_within all _ _ _) c.add.ensures.means
