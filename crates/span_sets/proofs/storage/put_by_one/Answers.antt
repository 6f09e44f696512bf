use Rattle.std.proofs.Common.{arith, refl, option_to_list}
use Rattle.span_sets.proofs.OneChunkSets.{one_replaced}
use Rattle.span_sets.proofs.storage.put_by_one.Goals as goal

pub returns-then-not-lies_beside : goal.returns-then-not-lies_beside
returns-then-not-lies_beside c =
    one_replaced (option_to_list c.args.only) c.args.few.now c.index-few-0.result c.args.lo c.args.hi
    (c.if-not-lies_beside.ensures.0 refl) (omega arith) c.index-few-0.is
