use Rattle.krl_writer.proofs.Common.{arith, length-append, length-string, string}
use Rattle.krl_writer.proofs.strings.add_string.Goals as goal

pub returns-then-text-gt-LIMIT : goal.returns-then-text-gt-LIMIT
returns-then-text-gt-LIMIT c = omega (arith, length-append c.args.out.now.items (string c.args.text.now), length-string c.args.text.now)
