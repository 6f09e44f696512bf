-- The entries of the lines are added, or a line stops the run.
use Rattle.krl_make.proofs.MadeLists.{text_added, text_stops}
use Rattle.krl_make.proofs.files.add_text.Goals as goal

pub returns-in-Ok : goal.returns-in-Ok
returns-in-Ok g c = text_added _ _ _ _ _ c.in-Ok.ensures.reads c.in-Ok.ensures.held

pub returns-in-Err : goal.returns-in-Err
returns-in-Err g c =
    rw c.cause_run_fault.ensures (text_stops _ c.args.name.now c.args.text.now c.in-Err.fault.line c.in-Err.fault.cause _ _ c.in-Err.ensures.reads)
