-- The lists of serials that begin at the first run.
use Rattle.std.specs.Prelude.{ℕ, ◌+◌, ◌*◌, ◌^◌, ◌<◌, ◌≤◌, List, take}
use Rattle.serial_set.specs.declared.span.Span.{Span}
use Rattle.krl_plan.specs.declared.group.Sort.TheVariants.{Serials}
use Rattle.krl_plan.specs.declared.lists.Lists.{Lists}
use Rattle.krl_plan.specs.declared.monotonic_queue.Candidate.{Candidate}
use Rattle.krl_plan.specs.Plan.{IsGroup, serial_count}
use Rattle.krl_plan.specs.Search.{rest_cost}
use Rattle.krl_plan.specs.MonotonicQueue.{IsFilled}

-- this many runs at the front may be a list
abbrev pub IsList : List Span → ℕ → Type 0
IsList runs count = IsGroup runs (record { sort = Serials; count = count })

-- that list as a candidate, if the first run is at an index of the set
abbrev pub list_candidate : ℕ → ℕ → List Span → List ℕ → ℕ → Candidate
list_candidate base at runs rests count = record {
  position = at + count;
  value = base + 8 * serial_count (take count runs) + rest_cost rests count;
  end = at + count;
}

-- the lists of the runs from an index on
pub record HasLists (lists : Lists) (at : ℕ) (runs : List Span) (rests : List ℕ) : Type 0 where
  pub room : 16 * at ≤ lists.base
  pub bounded : lists.base < 2 ^ 100
  pub filled : IsFilled lists.queue.candidates.items (IsList runs)
      (list_candidate lists.base at runs rests)
