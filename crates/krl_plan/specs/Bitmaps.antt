-- The bitmaps that begin at the first run.
use Rattle.std.specs.Prelude.{◌≡◌, ℕ, ◌+◌, ◌/◌, ◌%◌, ◌<◌, List, [], ◌∷◌, take}
use Rattle.std.specs.Prelude.{slice_index_or as get_or}
use Rattle.serial_set.specs.declared.span.Span.{Span}
use Rattle.krl_plan.specs.declared.bitmaps.Bitmaps.{Bitmaps}
use Rattle.krl_plan.specs.declared.group.Sort.TheVariants.{Bitmap}
use Rattle.krl_plan.specs.declared.monotonic_queue.Candidate.{Candidate}
use Rattle.krl_plan.specs.declared.monotonic_queue.MonotonicQueue.{MonotonicQueue}
use Rattle.krl_plan.specs.Plan.{IsGroup, end_of}
use Rattle.krl_plan.specs.Search.{rest_cost}
use Rattle.krl_plan.specs.MonotonicQueue.{IsFilled}

-- the last serial of some runs
abbrev pub last_of : List Span → ℕ
last_of [] = 0
last_of (run ∷ runs) = end_of run runs

-- this many runs at the front may be a bitmap
abbrev pub IsBitmap : List Span → ℕ → Type 0
IsBitmap runs count = IsGroup runs (record { sort = Bitmap; count = count })

-- this many runs at the front may be a bitmap, and the serial after the last leaves this remainder
pub record IsBitmapOf (runs : List Span) (remainder count : ℕ) : Type 0 where
  pub is_bitmap : IsBitmap runs count
  pub leaves : (last_of (take count runs) + 1) % 8 ≡ remainder

-- that bitmap as a candidate, if the first run is at an index of the set
abbrev pub bitmap_candidate : ℕ → List Span → List ℕ → ℕ → Candidate
bitmap_candidate at runs rests count = record {
  position = last_of (take count runs);
  value = (last_of (take count runs) + 1) / 8 + rest_cost rests count;
  end = at + count;
}

-- the bitmaps of the runs from an index on, a queue for each remainder
abbrev pub HasBitmaps : Bitmaps → ℕ → List Span → List ℕ → Type 0
HasBitmaps bitmaps at runs rests =
    (r : ℕ) (d : MonotonicQueue) → r < 8
    → IsFilled (get_or bitmaps.queues r d).candidates.items (IsBitmapOf runs r)
    (bitmap_candidate at runs rests)
