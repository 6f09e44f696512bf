-- The reading function and the table agree.
use Rattle.ssh_wire.proofs.RowLaws.{no_fault, one_fault, table_again, table_fails, table_refused, table_takes}
use Rattle.ssh_wire.proofs.laws.table_is_read_back.Goals as goal

pub returns-clause-read : goal.returns-clause-read
returns-clause-read g c = λ unread rows before values bytes rest fits. (
  λ read. (table_takes unread rows before bytes (values, rest) fits read).begins,
  λ begins. table_again unread rows before bytes values rest begins,
)

pub returns-clause-refused : goal.returns-clause-refused
returns-clause-refused g c = λ unread rows before bytes fault fits. (
  λ read. table_refused unread rows before bytes fault fits read,
  λ fails. table_fails unread rows before bytes fault fails,
)

pub returns-clause-one : goal.returns-clause-one
returns-clause-one g c = λ unread rows before bytes a b p q. one_fault unread rows before bytes a b p q

pub returns-clause-none : goal.returns-clause-none
returns-clause-none g c = λ unread rows before values bytes rest fault begins fails. no_fault unread rows before bytes values rest fault begins fails
