-- The waiting lines are written, unless the output has failed.
use Rattle.std.proofs.Common.{sym, ap, ◌∙◌}
use Rattle.run_output.specs.Printer.{Printer}
use Rattle.run_output.proofs.RunEnds.{ends_lost, ends_sent}
use Rattle.run_output.proofs.printer.Printer.finish.Goals as goal

pub returns-then-is_lost-clause-ends : goal.returns-then-is_lost-clause-ends
returns-then-is_lost-clause-ends g c = λ before run reaches.
    ends_lost run before c.args.stop c.args.self.now (sym c.is_lost.ensures ∙ c.if-is_lost.true) reaches

pub returns-clause-ends : goal.returns-clause-ends
returns-clause-ends g c = λ before run reaches.
    rw (c.status.ensures, c.is_some.ensures, c.or-fault.ensures, c.err.ensures.value)
    (ends_sent c.send.result run before c.args.stop c.args.self.now c.send.new.self c.self.inside.revoked
    (sym c.is_lost.ensures ∙ c.if-is_lost.false) reaches c.send.ensures.sends (ap (λ (now : Printer). now.revoked) c.self.view_is))
