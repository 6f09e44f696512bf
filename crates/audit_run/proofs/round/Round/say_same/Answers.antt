-- The name was counted, and printed if it is one of the first, or the audit was stopped within it.
use Rattle.std.proofs.Common.{refl, sym}
use Rattle.audit_run.specs.Visits.{Same, is_told}
use Rattle.audit_run.proofs.Auditing.{met, met_stopped, not_more, same_gave_since}
use Rattle.audit_run.proofs.round.Round.say_same.Goals as goal

pub returns-in-Err : goal.returns-in-Err
returns-in-Err g c =
    rw (sym c.self.view_is, c.stop_by.ensures) (record {
      audits = record {
        judge = c.in-Err.ensures.judge;
        audits = λ answers judges. met_stopped _ (Same (is_told c.self.inside.files c.args.key) c.args.key c.args.name.now) c.in-Err.fault _ _
            (rw c.is_told-is_told.ensures at c.in-Err.ensures.said) (rw (sym c.self.view_is) at c.requires, refl);
      };
      since = tt;
    })

pub returns : goal.returns
returns g c =
    rw (sym c.self.view_is, c.show.ensures) (record {
      audits = record {
        judge = c.in_default.ensures.judge;
        audits = λ answers judges. met _ (Same (is_told c.self.inside.files c.args.key) c.args.key c.args.name.now) tt _ _
            (rw c.is_told-is_told.ensures at c.in_default.ensures.said) (rw (sym c.self.view_is) at c.requires, refl) (rw (c.in_ok-count_same.ensures, c.in_default.ensures.counts) refl)
            (λ silent. not_more c.self.inside.auditor.counts.revoked);
      };
      since = same_gave_since _ _ (is_told c.self.inside.files c.args.key) c.args.key c.args.name.now refl refl;
    })
