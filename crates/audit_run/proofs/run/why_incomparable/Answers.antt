-- The list was checked.
use Rattle.std.proofs.Common.{refl, ap}
use Rattle.std.specs.Prelude.{is_some}
use Rattle.audit_run.specs.Run.{plain, whole}
use Rattle.audit_run.proofs.run.why_incomparable.Goals as goal

pub returns-in-Some : goal.returns-in-Some
returns-in-Some c = whole (ap is_some c.in-Some.is) c.first_incomparable.ensures

pub returns-in-None : goal.returns-in-None
returns-in-None c = plain c.in-None.is refl
