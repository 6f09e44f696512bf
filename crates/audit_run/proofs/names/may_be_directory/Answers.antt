-- The path was looked at, and what a link leads to.
use Rattle.std.proofs.Common.{◌∙◌, refl, sym}
use Rattle.audit_run.specs.Names.{behind, looked_at, not_looked_at}
use Rattle.audit_run.proofs.names.may_be_directory.Goals as goal

pub returns-in-Ok : goal.returns-in-Ok
returns-in-Ok g c =
    behind c.in-Ok.found c.in-Ok.ensures (sym c.is_link.ensures ∙ c.if-is_link.true) c.may_be_wanted.ensures

pub returns-in-Ok-2 : goal.returns-in-Ok-2
returns-in-Ok-2 g c =
    looked_at c.in-Ok.found c.in-Ok.ensures (sym c.is_link.ensures ∙ c.if-is_link.false) c.is_directory.ensures

pub returns-in-Err : goal.returns-in-Err
returns-in-Err g c = not_looked_at c.in-Err.field-0 c.in-Err.ensures refl
