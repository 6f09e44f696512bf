use Rattle.std.proofs.Common.{arith}
use Rattle.span_sets.proofs.ChunkMembers.{high_ones, low_ones, mask_fits}
use Rattle.span_sets.proofs.chunk.mask.Goals as goal

pub overflow_sub-result-3 : goal.overflow_sub-result-3
overflow_sub-result-3 c =
    let fits = mask_fits c.args.lo c.args.hi c.requires.ordered in
    omega (arith, high_ones c.args.hi c.requires.within, low_ones c.args.lo (omega arith))

pub returns : goal.returns
returns c =
    let fits = mask_fits c.args.lo c.args.hi c.requires.ordered in
    omega (arith, high_ones c.args.hi c.requires.within, low_ones c.args.lo (omega arith))
