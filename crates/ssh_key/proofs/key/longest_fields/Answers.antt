use Rattle.std.proofs.Common.{ap, length, arith}
use Rattle.ssh_key.specs.Kind.{type_name}
use Rattle.ssh_key.proofs.Keys.{length-type_name}
use Rattle.ssh_wire.proofs.Fields.{length-string}
use Rattle.ssh_key.proofs.key.longest_fields.Goals as goal

pub returns : goal.returns
returns c = omega (arith, ap length c.name.ensures, length-type_name c.args.kind, length-string (type_name c.args.kind))
