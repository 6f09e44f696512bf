use Rattle.std.proofs.Common.{◌≡◌, ◌++◌, length, map}
use Rattle.key_places.specs.Place.{KeyPlace}
use Rattle.key_places.specs.Reading.{places_of}
use Rattle.key_places_tests.proofs.tests.page.columns.Given as goal

-- the columns of the places that are left follow those so far
abbrev pub invariant-places : goal.invariant-places
invariant-places l = l.columns.items ++ map (λ (place : KeyPlace). place.column) l.places ≡ map
    (λ (place : KeyPlace). place.column) (places_of l.line)

abbrev pub decreases-places : goal.decreases-places
decreases-places l = length l.places
