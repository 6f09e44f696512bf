-- The names and the list of the sshd are those of the task, and the status is that of the run; or a
-- text is refused, or nothing was said about the list.
use Rattle.std.proofs.Common.{Err, Ok}
use Rattle.krl.specs.Runs.{checked, unread}
use Rattle.krl.proofs.check.check.Goals as goal

pub returns-in-Err : goal.returns-in-Err
returns-in-Err c = unread c.in-Err.ensures.refused

pub returns-in-Err-used_by : goal.returns-in-Err-used_by
returns-in-Err-used_by c = unread c.in-Err-used_by.ensures.refused

pub returns-in-Ok-check_run : goal.returns-in-Ok-check_run
returns-in-Ok-check_run c =
    let run = c.in-Ok-check_run.ensures in
    checked _ (rw (c.as_ref.ensures.value, ← c.as_slice.ensures.value) c.in-Ok.ensures.given) c.in-Ok-used_by.ensures.found run.told _ _ _ (Ok c.in-Ok-check_run.done) run.are c.end.ensures

pub returns : goal.returns
returns c =
    let run = c.in-Err-check_run.ensures in
    checked _ (rw (c.as_ref.ensures.value, ← c.as_slice.ensures.value) c.in-Ok.ensures.given) c.in-Ok-used_by.ensures.found run.told _ _ _ (Err c.in-Err-check_run.why) run.are c.fail_in_words.ensures
