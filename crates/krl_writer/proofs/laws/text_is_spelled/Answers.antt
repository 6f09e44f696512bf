use Rattle.krl_writer.proofs.Sections.{text_spelled}
use Rattle.krl_writer.proofs.laws.text_is_spelled.Goals as goal

pub returns : goal.returns
returns c header plans r version date orderly each short = text_spelled header plans r version date orderly each short
