use Rattle.std.proofs.Common.{◌≡◌, Option, Some, None, is_some, option_map, length, refl, sym, ◌∙◌, arith, le_refl}
use Rattle.key_places.specs.declared.place.Place.{Place}
use Rattle.key_places.specs.Reading.{content_of}
use Rattle.key_places.proofs.PlaceLaws.{first_at, later_left}
use Rattle.key_places.proofs.ReadingLaws.{no_places, skipped}
use Rattle.key_places.proofs.places.first_place.Goals as goal

mapped : (place : Option Place) → is_some (option_map content_of place) ≡ is_some place
mapped None = refl
mapped (Some place) = refl

pub returns-then-is_some : goal.returns-then-is_some
returns-then-is_some c =
    let within = c.in-Some.ensures.within in
    let some = mapped c.in_ok-place.place ∙ (sym c.is_some.ensures ∙ c.if-is_some.true) in
    first_at c.args.line.now c.args.from c.names.at c.in-Some.start
    (option_map content_of c.in_ok-place.place) within.0 within.1
    c.in-Some.ensures.skipped c.names.invariant.left c.in_ok-place.ensures some

pub names-preserved : goal.names-preserved
names-preserved c =
    let within = c.in-Some.ensures.within in
    let none = mapped c.in_ok-place.place ∙ (sym c.is_some.ensures ∙ c.if-is_some.false) in
    record {
      within = omega (arith, within.1);
      left = later_left c.args.line.now c.args.from c.names.at c.in-Some.start
          (option_map content_of c.in_ok-place.place) within.0 within.1
          c.in-Some.ensures.skipped c.names.invariant.left c.in_ok-place.ensures none;
    }

pub returns : goal.returns
returns c =
    let line = c.args.line.now in
    sym c.names.invariant.left
    ∙ (skipped line c.names.at (length line) c.names.invariant.within
    (le_refl (length line)) c.in_default.ensures.skipped
    ∙ no_places line (length line) (le_refl (length line)))
