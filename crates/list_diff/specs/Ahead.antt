-- Runs of a set that a search finds in order.
use Rattle.std.specs.Borrow.{Bor}
use Rattle.std.specs.Prelude.{ℕ, ◌+◌, ◌<◌, ◌≤◌, List, [], ◌∷◌, Option, Some, None, drop, ⊤}
use Rattle.serial_set.specs.declared.span.Span.{Span}
use Rattle.serial_set.specs.Iteration.{piece_of}
use Rattle.serial_set.specs.Span.{Covers}
use Rattle.list_diff.specs.declared.window.Window.{Window}

-- the runs of a set; none has none
abbrev pub spans_in : {S : Type 0} → (S → List Span) → Option (Bor S) → List Span
spans_in spans None = []
spans_in spans (Some set) = spans set.now

-- no number from the first one on that is below the last one is a member
abbrev pub NoneBetween : List Span → (first last : ℕ) → Type 0
NoneBetween spans first last = (s : ℕ) → first ≤ s → s < last → Covers spans s → ⊥

-- each number of a run is a member
abbrev pub AllCovered : List Span → Span → Type 0
AllCovered spans run = (s : ℕ) → run.lo ≤ s → s ≤ run.hi → Covers spans s

-- Each run consists of members, and there is none before it from the number on or from the end of
-- the run before it.
abbrev pub Follows : List Span → ℕ → List Span → Type 0
Follows spans n [] = ⊤
Follows spans n (run ∷ runs) =
    NoneBetween spans n run.lo × (run.lo ≤ run.hi) × AllCovered spans run
    × Follows spans (run.hi + 1) runs

-- the runs of a window from its index on are the first ones from its number on
abbrev pub IsWindow : List Span → Window → Type 0
IsWindow spans window = Follows spans window.from (drop window.at (piece_of window.piece))

-- the first members from a number on, up to one that may be followed by others
pub record IsFirst (spans : List Span) (n : ℕ) (run : Span) : Type 0 where
  pub from : n ≤ run.lo
  pub some : run.lo ≤ run.hi
  pub before : NoneBetween spans n run.lo
  pub covered : AllCovered spans run

-- these, or that there is no member from the number on
abbrev pub IsFirstFrom : List Span → ℕ → Option Span → Type 0
IsFirstFrom spans n None = (s : ℕ) → n ≤ s → Covers spans s → ⊥
IsFirstFrom spans n (Some run) = IsFirst spans n run
