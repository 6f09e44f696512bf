-- The last object has the counts of the round.
use Rattle.audit_run.proofs.run.say_last.Goals as goal

pub returns-in-Some-clause-carries : goal.returns-in-Some-clause-carries
returns-in-Some-clause-carries g c = rw (c.in-Some.is, ← c.round.view_is) c.say_done.ensures.said
