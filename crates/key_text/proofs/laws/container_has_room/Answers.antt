use Rattle.key_text.proofs.Sizes.{container_room}
use Rattle.key_text.proofs.laws.container_has_room.Goals as goal

pub returns : goal.returns
returns c = container_room
