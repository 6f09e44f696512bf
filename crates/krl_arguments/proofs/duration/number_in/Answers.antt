-- Bytes that are not UTF-8 are no number.
use Rattle.krl_arguments.proofs.Durations.{no_text}
use Rattle.krl_arguments.proofs.duration.number_in.Goals as goal

pub returns-in-Err : goal.returns-in-Err
returns-in-Err c = no_text c.args.digits.now c.in-Err.ensures.cases.0
