-- The vector holds the bytes that came, within its room, and the reader has not failed.
use Rattle.std.proofs.Common.{◌≡◌, ◌≤◌, ◌-◌, false, length, vec_len}
use Rattle.std.specs.Io.KnownBytes.{Consumes}
use Rattle.byte_streams.specs.Pull.{after_ahead}
use Rattle.byte_streams.proofs.rest.fill_rest.Given as goal

abbrev pub invariant-loop-batch : goal.invariant-loop-batch
invariant-loop-batch g l = record {
  comes : Consumes (after_ahead l.initial.ahead (g.R.Source.left l.initial.reader)) (after_ahead l.ahead (g.R.Source.left l.reader)) l.out.items;
  within : vec_len l.out ≤ l.room;
  working : g.R.Source.has_failed l.reader ≡ false;
  size : length l.batch ≡ 65536;
}

abbrev pub decreases-loop-batch : goal.decreases-loop-batch
decreases-loop-batch g l = l.room - vec_len l.out
