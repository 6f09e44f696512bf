-- Nothing is printed.
use Rattle.std.proofs.Common.{refl, sym}
use Rattle.audit_run.proofs.Auditing.{skipped_meets}
use Rattle.audit_run.proofs.round.Round.skip.Goals as goal

pub returns : goal.returns
returns g c =
    rw (sym c.self.view_is) (skipped_meets c.args.why c.args.count _ _ refl refl (rw c.count_skipped.ensures refl) refl refl)
