-- One condition is checked after another, or the check is stopped.
use Rattle.std.proofs.Common.{rules}
use Rattle.std.proofs.lemmas.Result.{err_from_is_err_and}
use Rattle.check_run.proofs.Steps.{checks_more, checks_then}
use Rattle.check_run.proofs.conditions.check_limits.Goals as goal

pub returns-in_err-check_version : goal.returns-in_err-check_version
returns-in_err-check_version g c =
    let p = err_from_is_err_and c.from_residual.result c.from_residual.ensures.1 in
    let version = rw c.version_of.ensures at c.in_err-check_version.ensures.checks in
    record {
      checks = rw (p.1, p.2) (checks_more _ _ _ _ _ _ _ _ _ _ version);
      unread = search rules;
      judge = search rules;
    }

pub returns-in_err-check_age : goal.returns-in_err-check_age
returns-in_err-check_age g c =
    let p = err_from_is_err_and c.from_residual-in_err-check_age.result c.from_residual-in_err-check_age.ensures.1 in
    let version = rw c.version_of.ensures at c.in_ok-check_version.ensures.checks in
    let age = rw c.in_ok-check_version.ensures.judge at c.in_err-check_age.ensures.checks in
    record {
      checks = rw (p.1, p.2) (checks_then _ _ _ _ _ _ _ _ _ _ _ _ version (checks_more _ _ _ _ _ _ _ _ _ _ age));
      unread = search rules;
      judge = search rules;
    }

pub returns-in_err-check_lost : goal.returns-in_err-check_lost
returns-in_err-check_lost g c =
    let p = err_from_is_err_and c.from_residual-in_err-check_lost.result c.from_residual-in_err-check_lost.ensures.1 in
    let version = rw c.version_of.ensures at c.in_ok-check_version.ensures.checks in
    let age = rw c.in_ok-check_version.ensures.judge at c.in_ok-check_age.ensures.checks in
    let lost = rw (c.in_ok-check_age.ensures.judge, c.in_ok-check_version.ensures.judge) at c.in_err-check_lost.ensures.checks in
    record {
      checks = rw (p.1, p.2) (checks_then _ _ _ _ _ _ _ _ _ _ _ _ version (checks_then _ _ _ _ _ _ _ _ _ _ _ _ age (checks_more _ _ _ _ _ _ _ _ _ _ lost)));
      unread = search rules;
      judge = search rules;
    }

pub returns : goal.returns
returns g c =
    let version = rw c.version_of.ensures at c.in_ok-check_version.ensures.checks in
    let age = rw c.in_ok-check_version.ensures.judge at c.in_ok-check_age.ensures.checks in
    let lost = rw (c.in_ok-check_age.ensures.judge, c.in_ok-check_version.ensures.judge) at c.in_ok-check_lost.ensures.checks in
    let sshd = rw (c.in_ok-check_lost.ensures.judge, c.in_ok-check_age.ensures.judge, c.in_ok-check_version.ensures.judge) at c.check_sshd.ensures.checks in
    record {
      checks = checks_then _ _ _ _ _ _ _ _ _ _ _ _ version (checks_then _ _ _ _ _ _ _ _ _ _ _ _ age (checks_then _ _ _ _ _ _ _ _ _ _ _ _ lost sshd));
      unread = search rules;
      judge = search rules;
    }
