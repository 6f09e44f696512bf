use Rattle.krl_entries.proofs.SameMeaning.{same_naming}
use Rattle.krl_entries.proofs.laws.naming.meaning_decides_naming.Goals as goal

pub returns : goal.returns
returns c r entries others m n = same_naming r entries others m n
