-- Each condition for the list itself is checked, or the check is stopped.
use Rattle.std.proofs.lemmas.Result.{err_from_is_err_and}
use Rattle.check_run.proofs.Judging.{empty_stops, format_stops, list_checked, slow_stops}
use Rattle.check_run.proofs.checking.check_list.Goals as goal

pub returns-in_err-check_format-clause-checks : goal.returns-in_err-check_format-clause-checks
returns-in_err-check_format-clause-checks g c =
    let p = err_from_is_err_and c.from_residual.result c.from_residual.ensures.1 in
    rw (p.1, p.2) (format_stops _ _ _ _ _ _ _ _ _ _ _ _ _ c.in_err-check_format.ensures.checks)

pub returns-in_err-check_empty-clause-checks : goal.returns-in_err-check_empty-clause-checks
returns-in_err-check_empty-clause-checks g c =
    let p = err_from_is_err_and c.from_residual-in_err-check_empty.result c.from_residual-in_err-check_empty.ensures.1 in
    let empty = rw c.in_ok-check_format.ensures.judge at c.in_err-check_empty.ensures.checks in
    rw (p.1, p.2) (empty_stops _ _ _ _ _ _ _ _ _ _ _ _ _ _ _ _ c.in_ok-check_format.ensures.checks empty)

pub returns-in_err-check_slow-clause-checks : goal.returns-in_err-check_slow-clause-checks
returns-in_err-check_slow-clause-checks g c =
    let p = err_from_is_err_and c.from_residual-in_err-check_slow.result c.from_residual-in_err-check_slow.ensures.1 in
    let empty = rw c.in_ok-check_format.ensures.judge at c.in_ok-check_empty.ensures.checks in
    let slow = rw (c.in_ok-check_empty.ensures.judge, c.in_ok-check_format.ensures.judge) at c.in_err-check_slow.ensures.checks in
    rw (p.1, p.2) (slow_stops _ _ _ _ _ _ _ _ _ _ _ _ _ _ _ _ _ _ _ c.in_ok-check_format.ensures.checks empty slow)

pub returns-clause-checks : goal.returns-clause-checks
returns-clause-checks g c =
    let empty = rw c.in_ok-check_format.ensures.judge at c.in_ok-check_empty.ensures.checks in
    let slow = rw (c.in_ok-check_empty.ensures.judge, c.in_ok-check_format.ensures.judge) at c.in_ok-check_slow.ensures.checks in
    let limits = rw (c.stated-stated.ensures, c.in_ok-check_slow.ensures.judge, c.in_ok-check_empty.ensures.judge, c.in_ok-check_format.ensures.judge) at c.check_limits.ensures.checks in
    list_checked _ _ _ _ _ _ _ _ _ _ _ _ _ _ _ _ _ _ _ _ _ c.in_ok-check_format.ensures.checks empty slow limits
