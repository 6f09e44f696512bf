-- The tokens are those of the object.
use Rattle.std.proofs.Common.{◌∙◌}
use Rattle.json_lines.proofs.Objects.{written}
use Rattle.json_lines.proofs.line_writer.write_object.Goals as goal

pub returns : goal.returns
returns g c = c.in_ok-line.ensures ∙ written _ _ _ c.over-out.ensures c.in_ok-put_values.ensures
