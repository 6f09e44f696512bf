use Rattle.login_lines.proofs.LineLaws.{fault_again, fault_found}
use Rattle.login_lines.proofs.laws.login_refused_by_its_fault.Goals as goal

pub returns : goal.returns
returns c = λ line fault fits. (fault_found line fault, fault_again line fault fits)
