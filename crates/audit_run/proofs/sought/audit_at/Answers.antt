-- There is no file, or it is audited.
use Rattle.std.proofs.Common.{◌∙◌, [], refl, sym}
use Rattle.audit_run.specs.Sought.{missing, there}
use Rattle.audit_run.proofs.Auditing.{goes_as, nothing_met}
use Rattle.audit_run.proofs.sought.audit_at.Goals as goal

pub returns-then-is_missing : goal.returns-then-is_missing
returns-then-is_missing g c = record {
  visits = [];
  is = missing c.look-found.result c.look-found.ensures (sym c.is_missing.ensures ∙ c.if-is_missing.true) refl;
  meets = nothing_met _;
}

pub returns : goal.returns
returns g c =
    goes_as c.audit_there.result _ _ _ _
    (λ visits is. there c.look-found.result c.look-found.ensures (sym c.is_missing.ensures ∙ c.if-is_missing.false) is)
    c.audit_there.ensures
