use Rattle.std.proofs.Common.{ℕ, List, get_or, ap}
use Rattle.ssh_wire.proofs.Fields.{one_byte}
use Rattle.ssh_wire.proofs.field.byte_of.Goals as goal

pub returns : goal.returns
returns c = ap (λ (field : List ℕ). get_or field 0 0) (one_byte c.args.field.now c.requires)
