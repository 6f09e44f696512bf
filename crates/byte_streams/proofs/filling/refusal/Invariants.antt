-- The bytes that came since the start are those between the count at the start and the current one.
use Rattle.std.proofs.Common.{◌≡◌, ◌≤◌, ◌-◌, false}
use Rattle.byte_streams.specs.Pull.{after_ahead}
use Rattle.byte_streams.proofs.Pulling.{Comes}
use Rattle.byte_streams.proofs.filling.refusal.Given as goal

abbrev pub invariant-loop-at : goal.invariant-loop-at
invariant-loop-at g l = record {
  comes : Comes (after_ahead l.initial.ahead (g.R.Source.left l.initial.reader)) (after_ahead l.ahead (g.R.Source.left l.reader)) l.taken l.at;
  within : l.at ≤ l.limit;
  working : g.R.Source.has_failed l.reader ≡ false;
}

abbrev pub decreases-loop-at : goal.decreases-loop-at
decreases-loop-at g l = l.limit - l.at
