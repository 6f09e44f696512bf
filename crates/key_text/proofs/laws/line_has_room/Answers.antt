use Rattle.key_text.proofs.Sizes.{line_room}
use Rattle.key_text.proofs.laws.line_has_room.Goals as goal

pub returns : goal.returns
returns c = line_room
