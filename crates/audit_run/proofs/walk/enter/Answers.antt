-- The names of the directory are known, or it cannot be entered.
use Rattle.std.proofs.Common.{[], ◌∷◌, None, refl, inl}
use Rattle.std.proofs.lemmas.Result.{err_from_is_err_and}
use Rattle.audit_run.specs.Visits.{Skipped, refused}
use Rattle.audit_run.specs.Walk.{entered, not_entered}
use Rattle.audit_run.specs.declared.files.Skip.TheVariants as skips
use Rattle.audit_run.proofs.Auditing.{goes_nothing}
use Rattle.audit_run.proofs.walk.enter.Goals as goal

pub returns-in_err-names : goal.returns-in_err-names
returns-in_err-names g c =
    let p = err_from_is_err_and c.from_residual.result c.from_residual.ensures.1 in
    rw (p.1, p.2, c.in_err-names.ensures.kept) (goes_nothing _ _)

pub returns-in_err-audit-in-Err : goal.returns-in_err-audit-in-Err
returns-in_err-audit-in-Err g c =
    let p = err_from_is_err_and c.from_residual-in_err-audit-in-Err.result c.from_residual-in_err-audit-in-Err.ensures.1 in
    let closed = rw (c.in-Err.is, c.as_str-2.ensures.value) at c.in_ok-names.ensures.names in
    rw (p.1, p.2) (record {
      visits = refused c.as_str-in-Err.result.now c.in-Err.refusal;
      is = inl (None, not_entered c.in-Err.refusal closed (rw c.as_str-in-Err.ensures.value refl) refl);
      meets = rw c.in_ok-names.ensures.kept at c.in_err-audit-in-Err.ensures;
    })

pub returns-in-Ok : goal.returns-in-Ok
returns-in-Ok g c =
    let opens = rw (c.in-Ok.is, c.as_str-2.ensures.value, c.search_in-search.ensures, c.as_str.ensures.value)
    at c.in_ok-names.ensures.names in
    record {
      visits = Skipped skips.ByName c.in-Ok.listing.skipped ∷ [];
      is = entered c.in-Ok.listing.names.items c.in-Ok.listing.skipped opens refl
          (rw (c.reverse.ensures.items, c.search_in-search.ensures, c.as_str.ensures.value) refl);
      meets = rw c.in_ok-names.ensures.kept at c.skip.ensures;
    }

pub returns-in_ok-audit-in-Err : goal.returns-in_ok-audit-in-Err
returns-in_ok-audit-in-Err g c =
    let closed = rw (c.in-Err.is, c.as_str-2.ensures.value) at c.in_ok-names.ensures.names in
    record {
      visits = refused c.as_str-in-Err.result.now c.in-Err.refusal;
      is = not_entered c.in-Err.refusal closed (rw c.as_str-in-Err.ensures.value refl) refl;
      meets = rw c.in_ok-names.ensures.kept at c.in_ok-audit-in-Err.ensures;
    }
