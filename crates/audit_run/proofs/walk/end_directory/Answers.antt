-- Nothing is left to say.
use Rattle.std.proofs.Common.{◌∙◌, sym}
use Rattle.audit_run.proofs.Auditing.{nothing_met}
use Rattle.audit_run.proofs.walk.end_directory.Goals as goal

pub returns-then-is_settled : goal.returns-then-is_settled
returns-then-is_settled g c =
    rw (sym c.round.view_is) (rw (sym c.is_settled.ensures ∙ c.if-is_settled.true) (nothing_met _))
