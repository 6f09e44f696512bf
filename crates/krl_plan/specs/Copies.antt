-- Runs that are copied from a set, in order.
use Rattle.std.specs.Prelude.{◌≡◌, ℕ, ◌*◌, ◌<◌, ◌≤◌, ◌⊎◌, List, [], ◌++◌, length, drop, Option}
use Rattle.std.specs.Prelude.{slice_index_or as get_or}
use Rattle.serial_set.specs.declared.span.Span.{Span}
use Rattle.serial_set.specs.Iteration.{left, since}

-- The copied runs, followed by those that the iteration has left, are the same as before. There are
-- at least `count` copied runs, or none is left.
pub record Copies (spans : List Span) (count : ℕ) (from : Option ℕ) (old new : List Span)
    (next : Option ℕ) : Type 0 where
  pub same : new ++ left next spans ≡ old ++ left from spans
  pub enough : (count ≤ length new) ⊎ (left next spans ≡ [])

-- the runs from each number on are a batch of 1,024 and those after it
abbrev pub BeginBatches : List Span → List ℕ → Type 0
BeginBatches spans starts =
    (i : ℕ) → i < length starts → since (get_or starts i 0) spans ≡ drop (1024 * i) spans

-- and no run is after the last batch
pub record AreStarts (spans : List Span) (starts : List ℕ) : Type 0 where
  pub begin : BeginBatches spans starts
  pub all : drop (1024 * length starts) spans ≡ []
