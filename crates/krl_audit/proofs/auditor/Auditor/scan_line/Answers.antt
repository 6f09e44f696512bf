-- One more place is told, or none is left, or the audit is stopped.
use Rattle.std.proofs.Common.{◌∙◌}
use Rattle.std.proofs.lemmas.Result.{err_from_is_err_and}
use Rattle.key_places.specs.Reading.{content_of}
use Rattle.krl_audit.proofs.Scanning.{told_end, told_place, told_place_memory, told_place_stop}
use Rattle.krl_audit.proofs.auditor.Auditor.scan_line.Goals as goal

pub returns-in_err-tally-in-Ok-Some-clause-told : goal.returns-in_err-tally-in-Ok-Some-clause-told
returns-in_err-tally-in-Ok-Some-clause-told g c =
    let p = err_from_is_err_and c.from_residual.result c.from_residual.ensures.1 in
    let told = rw c.places.invariant.judge at c.in_err-tally-in-Ok-Some.ensures.told in
    let parts = rw c.in-Ok-Some.field-0-is at c.in-Ok-Some.ensures.some in
    rw (p.1, p.2) (λ answers judges. c.places.invariant.told answers judges _ _ _ (rw parts (told_place_stop answers _ c.args.at.name.now c.places.tally c.args.at.number (content_of c.in-Ok-Some.place) c.next.new.self _ _ _ _ _ _ (told answers judges))))

pub places-preserved : goal.places-preserved
places-preserved g c =
    let told = rw c.places.invariant.judge at c.in_ok-tally-in-Ok-Some.ensures.told in
    let parts = rw c.in-Ok-Some.field-0-is at c.in-Ok-Some.ensures.some in
    record {
      told = λ answers judges result new after later.
          c.places.invariant.told answers judges result new after
          (rw parts (told_place answers _ c.args.at.name.now c.places.tally c.args.at.number (content_of c.in-Ok-Some.place) c.next.new.self _ result _ _ new _ _ after (told answers judges) later));
      judge = c.in_ok-tally-in-Ok-Some.ensures.judge ∙ c.places.invariant.judge;
    }

pub returns-in-Ok-None-clause-told : goal.returns-in-Ok-None-clause-told
returns-in-Ok-None-clause-told g c =
    let none = rw c.in-Ok-None.field-0-is at c.in-Ok-None.ensures.none in
    λ answers judges. c.places.invariant.told answers judges _ _ _ (rw none.0 (told_end answers _ c.args.at.name.now c.places.tally c.args.at.number _ _))

pub returns-in-Err-clause-told : goal.returns-in-Err-clause-told
returns-in-Err-clause-told g c = λ answers judges.
    c.places.invariant.told answers judges _ _ _ (told_place_memory answers _ c.args.at.name.now c.places.tally c.args.at.number c.places.places c.whole.result _ _ _ c.whole.ensures)
