-- The bytes up to the count were written, and the writer has not failed.
use Rattle.std.proofs.Common.{length, ◌-◌, ◌≡◌, ◌≤◌, false, take}
use Rattle.std.specs.Io.KnownBytes.{Appends}
use Rattle.byte_streams.proofs.sending.send.Given as goal

abbrev pub invariant-loop-count : goal.invariant-loop-count
invariant-loop-count g l = record {
  within : l.count ≤ length l.bytes;
  out : Appends (g.W.Sink.taken l.initial.writer) (g.W.Sink.taken l.writer) (take l.count l.bytes);
  working : g.W.Sink.has_failed l.writer ≡ false;
}

abbrev pub decreases-loop-count : goal.decreases-loop-count
decreases-loop-count g l = length l.bytes - l.count
