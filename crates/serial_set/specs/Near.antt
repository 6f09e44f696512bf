-- Spans that one change can add to a set.
use Rattle.std.specs.Prelude.{◌≡◌, ℕ, ◌/◌, ◌≤◌, ◌⊎◌, List, length, All}
use Rattle.serial_set.specs.declared.span.Span.{Span}
use Rattle.serial_set.specs.Span.{Covers, IsRunsOf}

-- the span lies in a window of 64 numbers
abbrev pub LiesIn : ℕ → Span → Type 0
LiesIn window span = (span.lo / 64 ≡ window) × (span.hi / 64 ≡ window)

-- there is at most one span, or all lie in one window
abbrev pub AreNear : List Span → Type 0
AreNear spans = (length spans ≤ 1) ⊎ ((window : ℕ) × All (LiesIn window) spans)

-- the list of runs of the numbers of another list, and of those of some spans
abbrev pub AddsSpans : List Span → List Span → List Span → Type 0
AddsSpans old more new = IsRunsOf new (λ s. Covers old s ⊎ Covers more s)
