use Rattle.std.proofs.Common.{◌*◌, arith}
use Rattle.span_sets.proofs.ChunkMembers.{in_clipped}
use Rattle.span_sets.proofs.chunk.span_in.Goals as goal

pub returns : goal.returns
returns c s from to =
    in_clipped (64 * c.args.window) c.args.lo c.args.hi s _ _ c.mask.result c.mask.ensures (omega arith)
    (omega arith) (omega arith) (omega arith) c.requires.ordered from to
