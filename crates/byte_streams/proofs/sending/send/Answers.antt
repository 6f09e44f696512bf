-- A write took the next part.
use Rattle.std.proofs.Common.{rules}
use Rattle.byte_streams.proofs.Parts.{Appends-take}
use Rattle.byte_streams.proofs.sending.send.Goals as goal

pub loop-count-preserved : goal.loop-count-preserved
loop-count-preserved g c = record {
  within = search rules;
  out = Appends-take _ _ _ _ _ _ c.loop-count.invariant.out c.in-Ok.ensures.bytes;
  working = c.in-Ok.ensures.failed;
}
