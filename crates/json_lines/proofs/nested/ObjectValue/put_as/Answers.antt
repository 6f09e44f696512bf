-- The name, and then the object.
use Rattle.json_lines.proofs.Objects.{named}
use Rattle.json_lines.proofs.nested.ObjectValue.put_as.Goals as goal

pub returns : goal.returns
returns g c = named c.args.out.now _ _ _ _ c.in_ok-token.ensures c.in_ok-put_values.ensures
