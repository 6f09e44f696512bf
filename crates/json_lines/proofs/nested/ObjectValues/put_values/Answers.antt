-- The fields between brackets.
use Rattle.json_lines.proofs.Objects.{object_value}
use Rattle.json_lines.proofs.nested.ObjectValues.put_values.Goals as goal

pub returns : goal.returns
returns g c = object_value c.args.out.now _ _ _ _ c.in_ok-token.ensures c.in_ok-put_fields.ensures c.in_ok-token-2.ensures
