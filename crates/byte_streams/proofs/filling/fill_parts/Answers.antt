-- A read filled the next part of the slice.
use Rattle.std.proofs.Common.{rules, take}
use Rattle.ssh_wire.specs.declared.pull_fault.PullFault.TheVariants.{Read}
use Rattle.byte_streams.proofs.Pulling.{Consumes-filled, FallsShort-front}
use Rattle.byte_streams.proofs.filling.fill_parts.Goals as goal

pub loop-count-preserved : goal.loop-count-preserved
loop-count-preserved g c = record {
  size = search rules;
  within = search rules;
  taken = Consumes-filled _ _ _ _ _ _ _ c.loop-count.invariant.within c.in-Ok.ensures.part c.loop-count.invariant.taken c.in-Ok.ensures.bytes.0;
  working = c.in-Ok.ensures.failed;
}

pub returns-in-Err : goal.returns-in-Err
returns-in-Err g c = FallsShort-front Read (g.R.Source.left c.args.reader.now) (g.R.Source.left c.loop-count.reader) _ _ (take c.loop-count.count c.loop-count.into) _ c.loop-count.invariant.taken (search rules) (search rules) (search rules)
