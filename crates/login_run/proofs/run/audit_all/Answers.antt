-- All logs were visited, or the run was stopped.
use Rattle.login_run.proofs.Running.{order_stopped, order_visited}
use Rattle.login_run.proofs.run.audit_all.Goals as goal

pub returns-in-Ok : goal.returns-in-Ok
returns-in-Ok g c =
    rw c.err-stop.ensures.value
    (order_visited _ _ c.args.order.now c.args.queried.now _ c.in-Ok.files c.say_last.result _ c.visit_all.new.auditor c.say_last.new.auditor c.in-Ok.ensures (rw c.summary_of-summary.ensures at c.say_last.ensures.carries) c.say_last.ensures.counts c.requires.shown c.requires.texts)

pub returns : goal.returns
returns g c = order_stopped _ _ c.args.order.now c.args.queried.now _ 0 c.in-Err.stop _ c.visit_all.new.auditor c.in-Err.ensures c.requires.shown c.requires.texts
