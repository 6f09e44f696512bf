-- The line was printed, and is sent.
use Rattle.audit_run.proofs.Flushing.{carried_and_sent}
use Rattle.audit_run.proofs.sending.say_same_and_send.Goals as goal

pub returns-clause-said : goal.returns-clause-said
returns-clause-said g c = carried_and_sent _ _ _ _ _ _ c.in_ok-say_same.ensures.said c.flush.ensures.carries
