-- The findings of the file were printed, and are sent.
use Rattle.audit_run.proofs.Flushing.{told_and_sent}
use Rattle.audit_run.proofs.sending.audit_and_send.Goals as goal

pub returns-in-Ok-clause-told : goal.returns-in-Ok-clause-told
returns-in-Ok-clause-told g c = λ answers judges.
    told_and_sent _ _ _ _ _ _ _ _ _ _ _ (c.in-Ok.ensures.told answers judges) c.flush.ensures.carries
