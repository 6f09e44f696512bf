use Rattle.key_text.proofs.PrivateLaws.{private_met, private_refused}
use Rattle.key_text.proofs.laws.private_refused_by_first_fault.Goals as goal

pub returns : goal.returns
returns c = λ text fault fits. (private_refused text fault fits, private_met text fault fits)
