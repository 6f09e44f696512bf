-- The lines wait, and an earlier answer is kept.
use Rattle.std.proofs.Common.{rules}
use Rattle.run_output.proofs.printer.Printer.add.Goals as goal

pub returns-clause-ok : goal.returns-clause-ok
returns-clause-ok g c = search rules steps 300000
