-- The directory is on another file system, or not.
use Rattle.std.proofs.Common.{[], ◌∷◌, refl}
use Rattle.audit_run.specs.Visits.{Skipped}
use Rattle.audit_run.specs.Walk.{elsewhere, entered_below}
use Rattle.audit_run.specs.declared.files.Skip.TheVariants as skips
use Rattle.audit_run.proofs.Auditing.{goes_more}
use Rattle.audit_run.proofs.walk.enter_below.Goals as goal

pub returns-then-is_elsewhere : goal.returns-then-is_elsewhere
returns-then-is_elsewhere g c = record {
  visits = Skipped skips.Elsewhere 1 ∷ [];
  is = elsewhere (rw (c.as_str.ensures.value, c.if-is_elsewhere.true) at c.is_elsewhere.ensures) refl refl;
  meets = c.skip.ensures;
}

pub returns : goal.returns
returns g c =
    let stays = rw (c.as_str.ensures.value, c.if-is_elsewhere.false) at c.is_elsewhere.ensures in
    goes_more c.enter.result _ _ _ _ (λ level visits is. entered_below stays is) c.enter.ensures
