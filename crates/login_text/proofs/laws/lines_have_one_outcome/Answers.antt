use Rattle.login_text.proofs.Outcomes.{one_outcome, some_outcome}
use Rattle.login_text.proofs.laws.lines_have_one_outcome.Goals as goal

pub returns-clause-one : goal.returns-clause-one
returns-clause-one c = one_outcome

pub returns-clause-some : goal.returns-clause-some
returns-clause-some c = some_outcome
