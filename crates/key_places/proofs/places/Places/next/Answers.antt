use Rattle.std.proofs.Common.{◌≡◌, ℕ, [], List, Option, Some, None, IfNone, option_map, length, refl, arith}
use Rattle.key_places.specs.declared.place.Place.{Place}
use Rattle.key_places.specs.Reading.{IsFirstPlace, content_of, places_from}
use Rattle.key_places.proofs.ReadingLaws.{no_places}
use Rattle.key_places.proofs.places.Places.next.Goals as goal
use Rattle.key_places.proofs.places.Places.next.Goals.{in-Some, in-None}

none_left : (line : List ℕ) (at next : ℕ) (place : Option Place) → IsFirstPlace line at (option_map content_of place)
    → (place ≡ None → next ≡ length line) → IfNone place ((places_from line at ≡ []) × (places_from line next ≡ []))
none_left line at next None first end = (first, no_places line next (omega (arith, end refl)))
none_left line at next (Some place) first end = tt

pub returns-clause-none : goal.returns-clause-none
returns-clause-none c =
    let line = c.self.inside.line.now in
    let end : c.in_ok-place.place ≡ None → c.match-place.self ≡ length line = λ none. elim c.match-place.branch [
      | in-Some w ↦ let some = w.in-Some.is in absurd cc
      | in-None w ↦ w.self-is
    ] in
    rw (← c.self.view_is)
    (none_left line c.self.inside.at c.match-place.self c.in_ok-place.place c.in_ok-place.ensures end)
