-- The name, and then the values between brackets.
use Rattle.json_lines.proofs.Objects.{array_value, named}
use Rattle.json_lines.proofs.nested.ArrayValue.put_as.Goals as goal

pub returns : goal.returns
returns g c =
    named c.args.out.now _ _ _ _ c.in_ok-token.ensures
    (array_value c.token.new.self _ _ _ _ c.in_ok-token-2.ensures c.in_ok-put_values.ensures c.in_ok-token-3.ensures)
