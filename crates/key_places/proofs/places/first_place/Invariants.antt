use Rattle.std.proofs.Common.{◌≡◌, ◌≤◌, ◌-◌, length}
use Rattle.key_places.specs.Reading.{places_from}
use Rattle.key_places.proofs.places.first_place.Given as goal

-- the places that are left are those from this position on
abbrev pub invariant-names : goal.invariant-names
invariant-names l = record {
  within : l.at ≤ length l.line;
  left : places_from l.line l.at ≡ places_from l.line l.from;
}

abbrev pub decreases-names : goal.decreases-names
decreases-names l = length l.line - l.at
