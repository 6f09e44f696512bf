-- The name selects no file, so its path was looked at.
use Rattle.std.proofs.Common.{◌∙◌, ap, sym}
use Rattle.audit_run.specs.Paths.{path_in}
use Rattle.audit_run.specs.Names.{not_selected}
use Rattle.audit_run.proofs.names.is_wanted.Goals as goal

pub returns : goal.returns
returns g c =
    let cases = c.in-Ok.ensures.cases in
    let path = c.as_str.ensures.value ∙ c.in_ok-path.ensures ∙ ap (path_in c.args.place.path.now) cases.0 in
    let never = rw (c.selection_of.ensures, c.selects_every.ensures) at (sym c.is_never.ensures ∙ c.if-not-is_never.false) in
    let keeps = rw c.if-is_excluded.false at c.is_excluded.ensures in
    not_selected (sym c.is_dots.ensures ∙ c.if-is_dots.false) keeps never cases.1
    (rw (path, c.is_sought.ensures) at c.may_be_directory.ensures)
