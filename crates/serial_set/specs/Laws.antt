-- A definition for the laws about bitmaps.
use Rattle.std.specs.Prelude.{ℕ, ◌<◌, List, All}
use Rattle.serial_set.specs.declared.span.Span.{Span}
use Rattle.serial_set.specs.BitRuns.{BitRuns, start, FeedsAll}

-- P holds after any bytes are fed from the start, for the offset, the number of bytes, the bytes,
-- the state that is reached, and the runs that are finished
abbrev pub AfterFeeding : (ℕ → ℕ → List ℕ → BitRuns → List Span → Type 0) → Type 0
AfterFeeding P =
    (offset len : ℕ) (bytes : List ℕ) (after : BitRuns) (finished : List Span)
    → All (λ byte. byte < 256) bytes
    → FeedsAll (start offset len) bytes after finished → P offset len bytes after finished
