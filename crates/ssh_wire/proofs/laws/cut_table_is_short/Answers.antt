-- A proper prefix ends within a part.
use Rattle.ssh_wire.proofs.RowLaws.{table_cut}
use Rattle.ssh_wire.proofs.laws.cut_table_is_short.Goals as goal

pub returns : goal.returns
returns g c = λ unread rows before values bytes n begins lt. table_cut unread rows before bytes values n begins lt
