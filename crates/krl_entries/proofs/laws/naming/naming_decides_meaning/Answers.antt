use Rattle.krl_entries.proofs.SameMeaning.{same_meaning}
use Rattle.krl_entries.proofs.laws.naming.naming_decides_meaning.Goals as goal

pub returns : goal.returns
returns c r entries others m same = same_meaning r entries others m same
