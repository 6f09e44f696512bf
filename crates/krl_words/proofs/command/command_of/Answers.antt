-- The words are parsed and ask for a job, or cannot be parsed.
use Rattle.std.proofs.Common.{map}
use Rattle.krl_words.proofs.Reading.{asked_for, fails_by, free_by, held_by, not_read}
use Rattle.krl_words.proofs.command.command_of.Goals as goal

pub returns-in-Ok : goal.returns-in-Ok
returns-in-Ok g c =
    let words = map g.S.AsStr.text c.args.words.now in
    asked_for words _ c.job_in.result (free_by _ words c.in_ok-program.ensures c.in-Ok.ensures.kinds) (held_by _ words c.in-Ok.matches c.is_divided.result c.in_ok-program.ensures c.in-Ok.ensures.matches c.is_divided.ensures) c.job_in.ensures

pub returns-in-Err : goal.returns-in-Err
returns-in-Err g c =
    let words = map g.S.AsStr.text c.args.words.now in
    not_read words c.in-Err.error c.fault_of.result (fails_by _ words c.in-Err.error c.in_ok-program.ensures c.in-Err.ensures.kinds) c.fault_of.ensures
