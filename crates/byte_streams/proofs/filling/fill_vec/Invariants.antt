-- The vector holds what came, and the reader has not failed.
use Rattle.std.proofs.Common.{◌≡◌, ◌≤◌, ◌-◌, false, vec_len, vec_capacity}
use Rattle.std.specs.Io.KnownBytes.{Consumes}
use Rattle.byte_streams.specs.Pull.{after_ahead}
use Rattle.byte_streams.proofs.filling.fill_vec.Given as goal

abbrev pub invariant-loop-batch : goal.invariant-loop-batch
invariant-loop-batch g l = record {
  comes : Consumes (after_ahead l.initial.ahead (g.R.Source.left l.initial.reader)) (after_ahead l.ahead (g.R.Source.left l.reader)) l.out.items;
  within : vec_len l.out ≤ l.size;
  working : g.R.Source.has_failed l.reader ≡ false;
  capacity : vec_capacity l.initial.out ≤ vec_capacity l.out;
}

abbrev pub decreases-loop-batch : goal.decreases-loop-batch
decreases-loop-batch g l = l.size - vec_len l.out
