-- The runs that a byte finished.
use Rattle.std.specs.Prelude.{List, take}
use Rattle.serial_set.specs.declared.span.Span.{Span}
use Rattle.serial_set.specs.declared.finished.Finished.{Finished}

-- the first `count` of the four spans
abbrev pub finished_of : Finished → List Span
finished_of f = take f.count f.spans
