-- Intervals of serials, and the one rising list of them that represents a set.
use Rattle.std.specs.Prelude.{ℕ, ◌+◌, ◌^◌, ◌≤◌, ◌<◌, ◌⊎◌, ◌↔◌, List, [], ◌∷◌, ⊤}
use Rattle.std.specs.Prelude.{nat_le, Bool, false, ◌&&◌, ◌||◌}
use Rattle.serial_set.specs.declared.span.Span.{Span}

-- the span covers the number s
abbrev pub SpanCovers : Span → ℕ → Type 0
SpanCovers span s = (span.lo ≤ s) × (s ≤ span.hi)

-- some span of the list covers the number s
abbrev pub Covers : List Span → ℕ → Type 0
Covers [] s = ⊥
Covers (span ∷ spans) s = SpanCovers span s ⊎ Covers spans s

-- the same, as a test
abbrev pub has : List Span → ℕ → Bool
has [] s = false
has (span ∷ spans) s = (nat_le span.lo s && nat_le s span.hi) || has spans s

-- the spans begin at `least` or above, and each next one at least two above the end of the one
-- before
abbrev pub RunsFrom : ℕ → List Span → Type 0
RunsFrom least [] = ⊤
RunsFrom least (span ∷ spans) =
    (least ≤ span.lo) × (span.lo ≤ span.hi) × RunsFrom (span.hi + 2) spans

-- a rising list of intervals of which no two touch
abbrev pub IsRuns : List Span → Type 0
IsRuns spans = RunsFrom 0 spans

-- the list of runs whose numbers are the members of a set
abbrev pub IsRunsOf : List Span → (ℕ → Type 0) → Type 0
IsRunsOf spans Member = IsRuns spans × ((s : ℕ) → Covers spans s ↔ Member s)

-- the list of runs of the numbers of another list, and of those from lo to hi
abbrev pub AddsSpan : List Span → ℕ → ℕ → List Span → Type 0
AddsSpan old lo hi new = IsRunsOf new (λ s. Covers old s ⊎ ((lo ≤ s) × (s ≤ hi)))

-- the numbers are serials: a serial is from 1 to 2^64-1
abbrev pub AreSerials : List Span → Type 0
AreSerials spans = (s : ℕ) → Covers spans s → (0 < s) × (s < 2 ^ 64)
