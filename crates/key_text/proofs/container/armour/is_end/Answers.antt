use Rattle.std.proofs.Common.{rules}
use Rattle.key_text.proofs.container.armour.is_end.Goals as goal

pub returns : goal.returns
returns c = search rules steps 300000
