-- The fact of a ghost field has at most one proof, as ghost fields require. The code cites this,
-- and it cannot cite proofs/.
use Rattle.std.specs.Prelude.{ℕ, ◌+◌, List, [], ◌∷◌}
use Rattle.std.specs.Coded.{Unit-prop, le_prop}
use Rattle.serial_set.specs.declared.span.Span.{Span}
use Rattle.serial_set.specs.Span.{RunsFrom}

-- a list rises in one way only
pub RunsFrom-prop : (least : ℕ) (spans : List Span) → IsProp (RunsFrom least spans)
RunsFrom-prop least [] = Unit-prop
RunsFrom-prop least (span ∷ spans) =
    let rest : IsProp (RunsFrom (span.hi + 2) spans) = RunsFrom-prop (span.hi + 2) spans in
    hlevel (le_prop, rest)
