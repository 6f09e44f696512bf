-- Spans that rise and may touch, and their runs, in which those that touch are joined.
use Rattle.std.specs.Prelude.{ℕ, ◌+◌, ◌≤◌, Bool, true, false, nat_eq, ⊤, List, [], ◌∷◌}
use Rattle.serial_set.specs.declared.span.Span.{Span}

-- the spans begin at `least` or above, and each next one past the end of the one before
abbrev pub Rises : ℕ → List Span → Type 0
Rises least [] = ⊤
Rises least (span ∷ spans) = (least ≤ span.lo) × (span.lo ≤ span.hi) × Rises (span.hi + 1) spans

-- a span before runs, by whether it touches the first of them
abbrev pub glued_by : Bool → Span → Span → List Span → List Span
glued_by true span run runs = record { lo = span.lo; hi = run.hi } ∷ runs
glued_by false span run runs = span ∷ run ∷ runs

-- a span before runs that begin past its end
abbrev pub glued : Span → List Span → List Span
glued span [] = span ∷ []
glued span (run ∷ runs) = glued_by (nat_eq (span.hi + 1) run.lo) span run runs

-- the runs of spans that rise
abbrev pub joined : List Span → List Span
joined [] = []
joined (span ∷ spans) = glued span (joined spans)
