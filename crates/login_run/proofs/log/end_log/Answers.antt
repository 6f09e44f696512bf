-- The last line was ended, or the rest is not read.
use Rattle.std.proofs.Common.{refl}
use Rattle.std.proofs.lemmas.Result.{err_from_is_err_and}
use Rattle.login_run.specs.Log.{broken, stopped, whole}
use Rattle.login_run.proofs.log.end_log.Goals as goal

pub returns-in_err-end_line : goal.returns-in_err-end_line
returns-in_err-end_line g c =
    let p = err_from_is_err_and c.from_residual.result c.from_residual.ensures.1 in
    broken c.in_err-end_line.field-0.0 c.end_line.new.start c.in_err-end_line.ensures (rw (p.1, p.2) refl)

pub returns-in-None : goal.returns-in-None
returns-in-None g c = whole c.end_line.new.start (rw c.in-None.is at c.in_ok-end_line.ensures) refl

pub returns-in-Some : goal.returns-in-Some
returns-in-Some g c =
    stopped c.in-Some.stop c.end_line.new.start c.end_line.new.auditor (rw c.in-Some.is at c.in_ok-end_line.ensures) c.say_stop.ensures.tells c.say_stop.ensures.read
