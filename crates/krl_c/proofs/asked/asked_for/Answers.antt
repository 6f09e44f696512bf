-- A certificate is refused exactly for a zero byte in its key ID.
use Rattle.std.proofs.Common.{sym, ◌∙◌}
use Rattle.krl_c.proofs.asked.asked_for.Goals as goal

pub returns-then-has_odd_id-clause-fault : goal.returns-then-has_odd_id-clause-fault
returns-then-has_odd_id-clause-fault c = record {
  asked = c.in-Ok.asked;
  subject = c.in-Ok.ensures.found;
  odd = sym c.has_odd_id.ensures ∙ c.if-has_odd_id.true;
}

pub returns-in-Ok-clause-found : goal.returns-in-Ok-clause-found
returns-in-Ok-clause-found c = record {
  subject = c.in-Ok.ensures.found;
  whole = sym c.has_odd_id.ensures ∙ c.if-has_odd_id.false;
}
