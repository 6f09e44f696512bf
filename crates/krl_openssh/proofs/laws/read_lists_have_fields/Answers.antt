-- A list that is read consists of exactly its fields.
use Rattle.krl_openssh.proofs.Rows.{has_fields, one_row}
use Rattle.krl_openssh.proofs.laws.read_lists_have_fields.Goals as goal

pub returns-clause-some : goal.returns-clause-some
returns-clause-some c = has_fields

pub returns-clause-one : goal.returns-clause-one
returns-clause-one c = one_row
