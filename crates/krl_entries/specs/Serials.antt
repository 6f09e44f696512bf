-- The runs of a set, where there is one.
use Rattle.std.specs.Prelude.{List, [], Option, Some, None}
use Rattle.std.specs.Borrow.{Bor}
use Rattle.serial_set.specs.declared.span.Span.{Span}

module _ {S : Type 0} (spans : S → List Span) where
  abbrev pub runs_in : Option (Bor S) → List Span
  runs_in None = []
  runs_in (Some set) = spans set.now
