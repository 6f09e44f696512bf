use Rattle.krl_format.proofs.Fronts.{one_reported}
use Rattle.krl_format.proofs.laws.lists.one_first_fault.Goals as goal

pub returns : goal.returns
returns c = one_reported
