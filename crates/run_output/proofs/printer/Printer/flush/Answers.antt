-- The waiting lines are written.
use Rattle.run_output.proofs.RunParts.{carries_flushed, carries_lost}
use Rattle.run_output.proofs.printer.Printer.flush.Goals as goal

pub returns-in_err-check-clause-carries : goal.returns-in_err-check-clause-carries
returns-in_err-check-clause-carries g c = carries_lost _ _ _ c.in_err-check.ensures.0

pub returns-clause-carries : goal.returns-clause-carries
returns-clause-carries g c = carries_flushed _ _ _ (c.send.ensures.sends c.in_ok-check.ensures) c.send.ensures.writer
