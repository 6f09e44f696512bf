use Rattle.std.proofs.Common.{rules}
use Rattle.ssh_key.proofs.Wire.{mpint_within}
use Rattle.ssh_key.proofs.fields.read_positive.Goals as goal

pub returns-clause-read : goal.returns-clause-read
returns-clause-read c = search rules steps 300000

pub returns-clause-within : goal.returns-clause-within
returns-clause-within c = mpint_within c.args.cursor.now c.in_ok-magnitude.magnitude.now c.mpint.new.self c.in_ok-magnitude.ensures.found.0
