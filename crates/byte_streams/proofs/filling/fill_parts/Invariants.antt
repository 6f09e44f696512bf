-- The slice is filled up to the count with what the reader gave, and it has not failed.
use Rattle.std.proofs.Common.{length, ◌-◌, ◌≡◌, ◌≤◌, false, take}
use Rattle.std.specs.Io.KnownBytes.{Consumes}
use Rattle.byte_streams.proofs.filling.fill_parts.Given as goal

abbrev pub invariant-loop-count : goal.invariant-loop-count
invariant-loop-count g l = record {
  size : length l.into ≡ length l.initial.into;
  within : l.count ≤ length l.into;
  taken : Consumes (g.R.Source.left l.initial.reader) (g.R.Source.left l.reader) (take l.count l.into);
  working : g.R.Source.has_failed l.reader ≡ false;
}

abbrev pub decreases-loop-count : goal.decreases-loop-count
decreases-loop-count g l = length l.initial.into - l.count
