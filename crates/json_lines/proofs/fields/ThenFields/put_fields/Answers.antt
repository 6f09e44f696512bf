-- The first fields, and then the others.
use Rattle.json_lines.proofs.Objects.{two_fields}
use Rattle.json_lines.proofs.fields.ThenFields.put_fields.Goals as goal

pub returns : goal.returns
returns g c = two_fields c.args.out.now _ _ _ _ c.in_ok-put_fields.ensures c.in_ok-put_fields-2.ensures
