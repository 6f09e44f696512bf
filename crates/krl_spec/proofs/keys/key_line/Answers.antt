-- The line has room for its key.
use Rattle.key_text.proofs.Sizes.{line_room}
use Rattle.krl_spec.proofs.keys.key_line.Goals as goal

pub returns-in-Ok-clause-room : goal.returns-in-Ok-clause-room
returns-in-Ok-clause-room c = line_room _ _ _ _ c.in-Ok.ensures.found
