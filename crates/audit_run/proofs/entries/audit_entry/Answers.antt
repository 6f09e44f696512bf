-- The command excludes the name; or it is no text, leads to a directory, or to what is met there.
use Rattle.std.proofs.Common.{[], ◌∷◌, None, ap, refl, sym, inl, ◌∙◌}
use Rattle.std.specs.Prelude.{is_some}
use Rattle.std.proofs.lemmas.Result.{err_from_is_err_and}
use Rattle.audit_run.specs.Paths.{path_in}
use Rattle.audit_lines.specs.declared.why.Refusal.TheVariants.{Open}
use Rattle.audit_run.specs.Search.{name_in}
use Rattle.audit_run.specs.Entries.{IsEntry, VisitsTarget, below, excluded, no_text, not_selected}
use Rattle.audit_run.specs.Visits.{Skipped, refused}
use Rattle.audit_run.specs.declared.files.Skip.TheVariants as skips
use Rattle.audit_run.proofs.Auditing.{goes_nothing, nothing_met}
use Rattle.audit_run.proofs.Entering.{begun_none, entry_here}
use Rattle.audit_run.proofs.entries.audit_entry.Goals as goal

pub returns-then-is_excluded-clause-entry : goal.returns-then-is_excluded-clause-entry
returns-then-is_excluded-clause-entry g c = record {
  visits = Skipped skips.Excluded 1 ∷ [];
  is = excluded (rw c.if-is_excluded.true at c.is_excluded.ensures) refl refl;
  meets = c.skip.ensures;
}

pub returns-in_err-shown-clause-entry : goal.returns-in_err-shown-clause-entry
returns-in_err-shown-clause-entry g c =
    let p = err_from_is_err_and c.from_residual.result c.from_residual.ensures.1 in
    rw (p.1, p.2) (goes_nothing _ _)

pub returns-in_err-path-clause-entry : goal.returns-in_err-path-clause-entry
returns-in_err-path-clause-entry g c =
    let p = err_from_is_err_and c.from_residual-in_err-path.result c.from_residual-in_err-path.ensures.1 in
    rw (p.1, p.2) (goes_nothing _ _)

pub returns-in_err-audit-clause-entry : goal.returns-in_err-audit-clause-entry
returns-in_err-audit-clause-entry g c =
    let p = err_from_is_err_and c.from_residual-in_err-audit.result c.from_residual-in_err-audit.ensures.1 in
    let keeps = rw c.if-is_excluded.false at c.is_excluded.ensures in
    let shown = c.as_str.ensures.value ∙ c.in_ok-shown.ensures in
    rw (p.1, p.2) (record {
      visits = refused c.as_str.result.now Open;
      is = inl (None, no_text keeps c.in_default.ensures.cases.0 refl (rw shown refl));
      meets = c.in_err-audit.ensures;
    })

pub returns-then-is_never-clause-entry : goal.returns-then-is_never-clause-entry
returns-then-is_never-clause-entry g c =
    let keeps = rw c.if-is_excluded.false at c.is_excluded.ensures in
    let cases = c.in-Ok.ensures.cases in
    let never = rw (c.selection_of-selection.ensures, c.selects_every.ensures) at (sym c.is_never.ensures ∙ c.if-is_never.true) in
    record { visits = []; is = not_selected keeps cases.1 never refl refl; meets = nothing_met _ }

pub returns-then-is_directory-clause-entry : goal.returns-then-is_directory-clause-entry
returns-then-is_directory-clause-entry g c =
    let keeps = rw c.if-is_excluded.false at c.is_excluded.ensures in
    let cases = c.in-Ok.ensures.cases in
    let chosen = rw (c.selection_of-selection.ensures, c.selects_every.ensures) at (sym c.is_never.ensures ∙ c.if-is_never.false) in
    let looked = c.as_str-2.ensures.value ∙ c.in_ok-path.ensures ∙ ap (path_in c.args.place.path.now) cases.0 in
    record {
      visits = [];
      is = below c.look-looked.result keeps cases.1 chosen (rw looked at c.look-looked.ensures)
          (sym c.is_directory.ensures ∙ c.if-is_directory.true) refl refl;
      meets = nothing_met _;
    }

pub returns-in_err-audit_target-clause-entry : goal.returns-in_err-audit_target-clause-entry
returns-in_err-audit_target-clause-entry g c =
    let p = err_from_is_err_and c.from_residual-in_err-audit_target.result c.from_residual-in_err-audit_target.ensures.1 in
    let was = rw c.name_in.ensures at c.in_err-audit_target.ensures in
    let keeps = rw c.if-is_excluded.false at c.is_excluded.ensures in
    let cases = c.in-Ok.ensures.cases in
    let looked = c.as_str-2.ensures.value ∙ c.in_ok-path.ensures ∙ ap (path_in c.args.place.path.now) cases.0 in
    let passed = c.as_str-found_at.ensures.value ∙ c.in_ok-path.ensures ∙ ap (path_in c.args.place.path.now) cases.0 in
    let wants = rw (c.selection_of.ensures, c.reads_every.ensures, c.as_bytes.ensures.value) at c.is_always-2.ensures in
    let never = sym c.is_never.ensures ∙ c.if-is_never.false in
    let is = sym c.is_directory.ensures ∙ c.if-is_directory.false in
    let chosen = rw c.selects_every.ensures at c.selection_of-selection.ensures in
    rw (p.1, p.2) (record {
      visits = was.visits;
      is = begun_none c.in_err-audit_target.field-0.0
          (λ visits. VisitsTarget (g.T.Tree.states c.args.tree.now) (name_in c.args.place.search c.as_str-found_at.result.now) c.is_always.result c.is_always-2.result
          c.target_of-target.result visits)
          (λ below visits. IsEntry (g.T.Tree.states c.args.tree.now) c.args.place.search c.args.place.path.now c.args.name.now
          (is_some below) visits)
          was.visits
          (λ met. entry_here (g.T.Tree.states c.args.tree.now) _ _ _ _ _ _ _ _ _ _ was.visits keeps cases.1 looked passed
          chosen c.is_always.ensures wants never c.look-looked.ensures is c.target_of-target.ensures met)
          was.is;
      meets = was.meets;
    })

pub returns-clause-entry : goal.returns-clause-entry
returns-clause-entry g c =
    let was = rw c.name_in.ensures at c.in_ok-audit_target.ensures in
    let keeps = rw c.if-is_excluded.false at c.is_excluded.ensures in
    let cases = c.in-Ok.ensures.cases in
    let looked = c.as_str-2.ensures.value ∙ c.in_ok-path.ensures ∙ ap (path_in c.args.place.path.now) cases.0 in
    let passed = c.as_str-found_at.ensures.value ∙ c.in_ok-path.ensures ∙ ap (path_in c.args.place.path.now) cases.0 in
    let wants = rw (c.selection_of.ensures, c.reads_every.ensures, c.as_bytes.ensures.value) at c.is_always-2.ensures in
    let never = sym c.is_never.ensures ∙ c.if-is_never.false in
    let is = sym c.is_directory.ensures ∙ c.if-is_directory.false in
    let chosen = rw c.selects_every.ensures at c.selection_of-selection.ensures in
    record {
      visits = was.visits;
      is = entry_here (g.T.Tree.states c.args.tree.now) _ _ _ _ _ _ _ _ _ _ was.visits keeps cases.1 looked passed
          chosen c.is_always.ensures wants never c.look-looked.ensures is c.target_of-target.ensures was.is;
      meets = was.meets;
    }
