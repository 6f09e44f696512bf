use Rattle.std.proofs.Common.{arith}
use Rattle.span_sets.proofs.NearSpans.{bits_more}
use Rattle.span_sets.proofs.block_bits.bits_of.Goals as goal

pub loop-span-preserved : goal.loop-span-preserved
loop-span-preserved c =
    bits_more c.args.spans.now c.loop-span.span-index c.args.window c.loop-span.bits c.mask-bits.result (record { lo = 0; hi = 0 }) (omega arith) c.requires.intervals c.requires.near c.mask-bits.ensures c.loop-span.invariant
