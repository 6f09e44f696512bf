-- The texts of sshds are those of the task, and the list is that of the task or of sshds.
use Rattle.std.proofs.Common.{Some, None, refl}
use Rattle.krl.specs.Audit.{audited}
use Rattle.krl.proofs.audit.audit.Goals as goal

pub returns-in-Some-default : goal.returns-in-Some-default
returns-in-Some-default c =
    audited _ _ (Some c.in-Some-default.list) c.in-Ok.ensures.texts c.in-Ok-sought_by.ensures.sought
    (rw c.in-Some-default.is-0 refl)
    (rw c.as_slice-files.ensures.value at c.audit_by_list.ensures)

pub returns-in-None-Some : goal.returns-in-None-Some
returns-in-None-Some c =
    audited _ _ (Some c.in-None-Some.list) c.in-Ok.ensures.texts c.in-Ok-sought_by.ensures.sought
    (rw c.in-None-Some.is-0 (rw c.in-None-Some.is-1 refl))
    (rw c.as_slice-files.ensures.value at c.audit_by_list-in-None-Some.ensures)

pub returns : goal.returns
returns c =
    audited _ _ None c.in-Ok.ensures.texts c.in-Ok-sought_by.ensures.sought
    (rw c.in-None-None.is-0 (rw c.in-None-None.is-1 refl))
    (rw c.list_name.ensures at
    (rw c.as_slice-files.ensures.value at c.audit_by_list-in-None-None.ensures))
