-- The string of the magnitude is at the front.
use Rattle.ssh_wire.proofs.Fields.{mpint_front}
use Rattle.ssh_wire.proofs.cursor.Cursor.mpint.Goals as goal

pub returns-else-is_err-clause-found : goal.returns-else-is_err-clause-found
returns-else-is_err-clause-found c = mpint_front _ _ _ c.magnitude-magnitude.result c.in_ok-string.ensures.found c.magnitude-magnitude.ensures
