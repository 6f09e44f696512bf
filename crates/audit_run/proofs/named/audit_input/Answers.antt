-- Standard input was read, or an allocation failed before anything was met.
use Rattle.std.proofs.Common.{[], ◌∷◌, None, refl}
use Rattle.std.proofs.lemmas.Result.{err_from_is_err_and}
use Rattle.krl_audit.specs.Audit.{content_of, name_by}
use Rattle.audit_run.specs.Visits.{Audited}
use Rattle.audit_run.proofs.Auditing.{goes, goes_nothing}
use Rattle.audit_run.proofs.Contents.{content_read}
use Rattle.audit_run.proofs.named.audit_input.Goals as goal

pub returns-in_err-read : goal.returns-in_err-read
returns-in_err-read g c =
    let p = err_from_is_err_and c.from_residual.result c.from_residual.ensures.1 in
    rw (p.1, p.2, c.take_text-text.ensures.kept) (goes_nothing _ _)

pub returns : goal.returns
returns g c =
    let met = rw c.take_text-text.ensures.kept at c.audit_as-done.ensures in
    rw (c.round.view_is, c.in-Some.is) (goes c.audit_as-done.result (Audited None (name_by c.args.name) (content_of c.content_of.result) ∷ []) _ _ _
    (record {
      content = content_of c.content_of.result;
      is = content_read _ _ c.in_ok-read.read c.read_input.new.text.items _ _ c.content_of.ensures c.as_slice.ensures.value
          c.in_ok-read.ensures;
      visits_are = refl;
    }) met)
