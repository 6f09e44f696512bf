-- The link leads to a directory, or it is not known to.
use Rattle.std.proofs.Common.{◌∙◌, refl, sym}
use Rattle.audit_run.specs.Names.{linked, unlinked}
use Rattle.audit_run.proofs.names.may_be_wanted.Goals as goal

pub returns-then-not-is_directory : goal.returns-then-not-is_directory
returns-then-not-is_directory g c =
    unlinked c.look-behind.result c.look-behind.ensures (sym c.is_directory.ensures ∙ c.if-not-is_directory.true) c.may_be_behind.ensures

pub returns-then-sought : goal.returns-then-sought
returns-then-sought g c =
    linked c.look-behind.result c.leads_to_sought-leads.result c.look-behind.ensures
    (sym c.is_directory.ensures ∙ c.if-not-is_directory.false) c.leads_to_sought-leads.ensures (rw c.if-sought.true refl)

pub returns-else-sought : goal.returns-else-sought
returns-else-sought g c =
    linked c.look-behind.result c.leads_to_sought-leads.result c.look-behind.ensures
    (sym c.is_directory.ensures ∙ c.if-not-is_directory.false) c.leads_to_sought-leads.ensures (rw c.if-sought.false refl)
