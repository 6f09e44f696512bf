use Rattle.krl_c.proofs.AnswerNumbers.{stays_ready}
use Rattle.krl_c.proofs.laws.numbers.handles_stay_ready.Goals as goal

pub returns : goal.returns
returns c = stays_ready
