-- Each number is printed after the one before it, or the audit is stopped.
use Rattle.std.proofs.lemmas.Result.{err_from_is_err_and}
use Rattle.krl_audit.proofs.Telling.{first_stops, first_then}
use Rattle.krl_audit.proofs.auditor.Auditor.say_rest.Goals as goal

pub returns-in_err-say_more-clause-said : goal.returns-in_err-say_more-clause-said
returns-in_err-say_more-clause-said g c =
    let p = err_from_is_err_and c.from_residual.result c.from_residual.ensures.1 in
    rw (p.1, p.2) (first_stops _ _ _ _ _ c.in_err-say_more.ensures.said)

pub returns-in_err-say_more-2-clause-said : goal.returns-in_err-say_more-2-clause-said
returns-in_err-say_more-2-clause-said g c =
    let p = err_from_is_err_and c.from_residual-in_err-say_more-2.result c.from_residual-in_err-say_more-2.ensures.1 in
    let second = rw c.in_ok-say_more.ensures.judge at c.in_err-say_more-2.ensures.said in
    rw (p.1, p.2) (first_then _ _ _ _ _ _ _ c.in_ok-say_more.ensures.said (first_stops _ _ _ _ _ second))

pub returns-clause-said : goal.returns-clause-said
returns-clause-said g c =
    let second = rw c.in_ok-say_more.ensures.judge at c.in_ok-say_more-2.ensures.said in
    let third = rw (c.in_ok-say_more-2.ensures.judge, c.in_ok-say_more.ensures.judge) at c.say_more-3.ensures.said in
    first_then _ _ _ _ _ _ _ c.in_ok-say_more.ensures.said (first_then _ _ _ _ _ _ _ second third)
