-- The answer waits, or is written.
use Rattle.std.proofs.Common.{ap, ◌∙◌}
use Rattle.run_output.specs.Printer.{Printer}
use Rattle.run_output.proofs.RunParts.{carries_added, carries_lost, carries_sent}
use Rattle.run_output.proofs.printer.Printer.say.Goals as goal

pub returns-in_err-check-clause-carries : goal.returns-in_err-check-clause-carries
returns-in_err-check-clause-carries g c = carries_lost _ _ _ c.in_err-check.ensures.0

pub returns-then-is_short-clause-carries : goal.returns-then-is_short-clause-carries
returns-then-is_short-clause-carries g c =
    let short = rw c.in-Ok.ensures.ok at (c.is_short.ensures.0 c.if-is_short.true) in
    rw c.in-Ok.ensures.ok (carries_added _ _ _ _ short)

pub returns-clause-carries : goal.returns-clause-carries
returns-clause-carries g c =
    let sends = rw c.in-Ok.ensures.ok at (c.send.ensures.sends (ap (λ (now : Printer). now.failed) c.in-Ok.ensures.ok ∙ c.in_ok-check.ensures)) in
    carries_sent _ _ _ _ _ sends (c.send.ensures.writer ∙ ap (λ (now : Printer). now.writer) c.in-Ok.ensures.ok)
