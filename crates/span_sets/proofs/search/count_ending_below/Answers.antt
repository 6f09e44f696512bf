use Rattle.std.proofs.Common.{rules}
use Rattle.span_sets.proofs.Parts.{below_parts}
use Rattle.span_sets.proofs.search.count_ending_below.Goals as goal

pub returns-clause-below : goal.returns-clause-below
returns-clause-below g c =
    (below_parts g.T.HasEnd.end c.args.number c.args.items.now c.partition_point.result c.partition_point.ensures.partitioned c.requires (λ a r f k. search rules)).0

pub returns-clause-reach : goal.returns-clause-reach
returns-clause-reach g c =
    (below_parts g.T.HasEnd.end c.args.number c.args.items.now c.partition_point.result c.partition_point.ensures.partitioned c.requires (λ a r f k. search rules)).1
