-- The first values, and then the others.
use Rattle.json_lines.proofs.Objects.{two_values}
use Rattle.json_lines.proofs.nested.ThenValues.put_values.Goals as goal

pub returns : goal.returns
returns g c = two_values c.args.out.now _ _ _ _ c.in_ok-put_values.ensures c.in_ok-put_values-2.ensures
