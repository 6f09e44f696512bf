-- The text is truncated so that there is room for the zero byte.
use Rattle.krl_c.proofs.WrittenTexts.{ended}
use Rattle.krl_c.proofs.written.end_with.Goals as goal

pub returns : goal.returns
returns c = rw c.copy_from_slice.ensures.after (ended c.args.text.now c.args.buffer.now c.min-count.result c.requires c.min-count.ensures)
