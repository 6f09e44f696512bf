use Rattle.key_places.specs.Reading.{NoneWithin}
use Rattle.key_places.proofs.search.name_before.Given as goal

abbrev pub invariant-loop-start : goal.invariant-loop-start
invariant-loop-start l = NoneWithin l.line l.from l.start
