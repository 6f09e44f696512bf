-- The link leads to a directory.
use Rattle.std.proofs.Common.{◌∙◌, refl, sym}
use Rattle.audit_run.specs.Entries.{link_to_directory}
use Rattle.audit_run.proofs.entries.target_of.Goals as goal

pub returns-then-is_directory : goal.returns-then-is_directory
returns-then-is_directory g c =
    link_to_directory c.look-target.result (sym c.is_link.ensures ∙ c.if-not-is_link.false) c.look-target.ensures
    (sym c.is_directory.ensures ∙ c.if-is_directory.true) refl
