-- The line has one outcome, and is judged by it.
use Rattle.std.proofs.Common.{◌≡◌}
use Rattle.login_lines.specs.Logins.{reported_of}
use Rattle.login_text.specs.Outcome.{Login}
use Rattle.login_text.proofs.Outcomes.{one_outcome}
use Rattle.login_run.proofs.judging.judge_line.Goals as goal

pub returns-in-Login : goal.returns-in-Login
returns-in-Login c = λ outcome is answers judges.
    let read = rw c.in-Login.is at c.in_ok-login.ensures in
    let same : Login (reported_of c.in-Login.login) c.in-Login.id.items ≡ outcome = one_outcome c.args.line.now (Login (reported_of c.in-Login.login) c.in-Login.id.items) outcome read is in
    let judged = rw c.as_slice.ensures.value at c.judge_login.ensures in
    rw (← same) (judged answers judges)
