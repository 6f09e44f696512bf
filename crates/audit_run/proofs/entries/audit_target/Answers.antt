-- The path cannot be looked at, or leads to what is not opened.
use Rattle.std.proofs.Common.{◌≡◌, true, ap, inl, inr, refl}
use Rattle.audit_run.specs.Entries.{irregular, null_device, unseen}
use Rattle.audit_run.specs.Names.{is_irregular}
use Rattle.audit_run.proofs.Auditing.{goes}
use Rattle.audit_run.proofs.entries.audit_target.Goals as goal

pub returns-in-Err : goal.returns-in-Err
returns-in-Err g c = goes c.audit.result _ _ _ _ (unseen c.in-Err.refusal c.in-Err.is refl) c.audit.ensures

pub returns-in-Null : goal.returns-in-Null
returns-in-Null g c =
    goes c.audit_if.result _ _ _ _ (null_device c.in-Ok.found c.in-Ok.is c.in-Null.is refl) c.audit_if.ensures

pub returns-in-Directory : goal.returns-in-Directory
returns-in-Directory g c =
    let kind : is_irregular c.in-Ok.found.kind ≡ true = elim c.in-Directory.is [
      | inl is ↦ ap is_irregular is
      | inr (inl is) ↦ ap is_irregular is
      | inr (inr is) ↦ ap is_irregular is
    ] in
    goes c.audit_if-in-Directory.result _ _ _ _ (irregular c.in-Ok.found c.in-Ok.is kind refl) c.audit_if-in-Directory.ensures
