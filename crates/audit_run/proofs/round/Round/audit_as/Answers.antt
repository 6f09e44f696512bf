-- The findings of the file were printed and counted, or the audit was stopped within them.
use Rattle.std.proofs.Common.{refl, sym}
use Rattle.krl_audit.specs.Audit.{content_of, name_by}
use Rattle.audit_run.proofs.Auditing.{file_met, file_revoked, file_stopped, gave_since}
use Rattle.audit_run.proofs.round.Round.audit_as.Goals as goal

pub returns-in-Err : goal.returns-in-Err
returns-in-Err g c =
    let content = content_of c.args.content in
    rw (sym c.self.view_is, c.stop_by.ensures) (record {
      audits = record {
        judge = c.in-Err.ensures.judge;
        audits = λ answers judges. file_stopped _ c.args.key (name_by c.args.name) content c.in-Err.fault _ _
            (c.in-Err.ensures.told answers judges) (rw (sym c.self.view_is) at c.requires);
      };
      since = tt;
    })

pub returns-then-ends_at : goal.returns-then-ends_at
returns-then-ends_at g c =
    let content = content_of c.args.content in
    rw (sym c.self.view_is) (record {
      audits = record {
        judge = c.in_default.ensures.judge;
        audits = λ answers judges. file_revoked _ c.args.key (name_by c.args.name) content tt _ _ c.keep.new.self c.ends_at.result
            (c.in_default.ensures.told answers judges) (rw (sym c.self.view_is) at c.requires) c.in_ok-keep.ensures
            c.count.ensures c.ends_at.ensures c.if-ends_at.true;
      };
      since = tt;
    })

pub returns : goal.returns
returns g c =
    let content = content_of c.args.content in
    let shown = c.show.ensures in
    rw (sym c.self.view_is, shown) (record {
      audits = record {
        judge = c.in_default.ensures.judge;
        audits = λ answers judges. file_met _ c.args.key (name_by c.args.name) content tt _ _ c.keep.new.self c.ends_at.result
            c.in_default.ensures.judge (c.in_default.ensures.told answers judges) (rw (sym c.self.view_is) at c.requires)
            c.in_ok-keep.ensures c.count.ensures c.ends_at.ensures c.if-ends_at.false;
      };
      since = gave_since _ _ c.args.key (name_by c.args.name) content refl refl;
    })
