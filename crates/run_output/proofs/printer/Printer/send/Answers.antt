-- A part of the waiting lines was written.
use Rattle.run_output.proofs.printer.Printer.send.Goals as goal

pub returns-in-Err-clause-sends : goal.returns-in-Err-clause-sends
returns-in-Err-clause-sends g c =
    let part = rw c.as_slice.ensures.value at c.in-Err.ensures in
    rw (← c.self.view_is) (λ working. record { count = c.in-Err.part.count; short = part.short; counted = c.saturating_add-self-inside.ensures; named = c.lost.ensures; taken = part.err; broken = part.failed })
