use Rattle.krl_writer.proofs.Sizes.{length-text}
use Rattle.krl_writer.proofs.laws.text_has_its_size.Goals as goal

pub returns : goal.returns
returns c header plans r orderly each = length-text header plans r orderly each
