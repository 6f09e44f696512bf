-- Interruptions took no bytes, and each uses up one of the tries.
use Rattle.std.proofs.Common.{◌≡◌, true, ◌+◌, cond}
use Rattle.std.specs.Io.KnownBytes.{Keeps}
use Rattle.byte_streams.proofs.from_read.FromReadSource.read.Given as goal

abbrev pub invariant-loop-self : goal.invariant-loop-self
invariant-loop-self g l = record {
  kept : Keeps (g.R.Read.remaining l.initial.self.inner) (g.R.Read.remaining l.self.inner);
  for_good : l.initial.self.failed ≡ true → l.self.failed ≡ true;
}

abbrev pub decreases-loop-self : goal.decreases-loop-self
decreases-loop-self g l = l.self.interruptions.left + cond l.self.failed 0 1
