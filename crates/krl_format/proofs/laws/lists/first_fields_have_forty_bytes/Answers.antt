use Rattle.krl_format.proofs.FirstFields.{fixed_room}
use Rattle.krl_format.proofs.laws.lists.first_fields_have_forty_bytes.Goals as goal

pub returns : goal.returns
returns c = fixed_room
