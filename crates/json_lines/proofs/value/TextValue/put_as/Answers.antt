-- The bytes are text, or they are not.
use Rattle.json_lines.proofs.Objects.{as_base64, as_text}
use Rattle.json_lines.proofs.value.TextValue.put_as.Goals as goal

pub returns-in-Ok : goal.returns-in-Ok
returns-in-Ok c =
    let cases = c.in-Ok.ensures.cases in
    let is = as_text c.args.name.now c.args.self.now.0.now cases.1 in
    let put = rw cases.0 at c.put_as.ensures in
    rw is put

pub returns-in-Err : goal.returns-in-Err
returns-in-Err c =
    let is = as_base64 c.args.name.now c.args.self.now.0.now c.in-Err.ensures.cases.0 in
    rw is c.put_base64.ensures
