-- The lists and the names are those of the task, and the status is that of the run.
use Rattle.krl.specs.Runs.{compared, unnamed}
use Rattle.krl.proofs.diff.diff.Goals as goal

pub returns-in-Err : goal.returns-in-Err
returns-in-Err c = unnamed c.in-Err.ensures.refused

pub returns : goal.returns
returns c =
    let run = c.diff_run-done.ensures in
    let ends = rw (← c.end.ensures) at run.are in
    compared c.as_ref.result (rw (c.as_ref.ensures.value, ← c.as_slice.ensures.value) c.in-Ok.ensures.given) run.told _ _ _ _ ends
