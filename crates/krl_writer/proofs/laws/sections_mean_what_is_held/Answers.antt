use Rattle.krl_writer.proofs.WrittenNames.{sections_mean}
use Rattle.krl_writer.proofs.laws.sections_mean_what_is_held.Goals as goal

pub returns : goal.returns
returns c plans r orderly each = sections_mean plans r orderly each
