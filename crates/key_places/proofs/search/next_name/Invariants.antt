use Rattle.std.proofs.Common.{◌≤◌, ◌-◌, length}
use Rattle.key_places.specs.Reading.{NoneWithin}
use Rattle.key_places.proofs.search.next_name.Given as goal

-- no place before the part that is left
abbrev pub invariant-hyphens : goal.invariant-hyphens
invariant-hyphens l = record {
  low : l.from ≤ l.at;
  high : l.at ≤ length l.line;
  none : NoneWithin l.line l.from l.at;
}

abbrev pub decreases-hyphens : goal.decreases-hyphens
decreases-hyphens l = length l.line - l.at
