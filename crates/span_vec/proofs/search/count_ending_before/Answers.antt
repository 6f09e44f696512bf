use Rattle.std.proofs.Common.{rules}
use Rattle.serial_set.proofs.RisingLists.{ends_rise}
use Rattle.span_sets.proofs.Parts.{below_parts}
use Rattle.span_vec.proofs.search.count_ending_before.Goals as goal

pub returns-clause-before : goal.returns-clause-before
returns-clause-before c =
    (below_parts (λ t. t.hi) c.args.number c.args.spans.now c.partition_point.result c.partition_point.ensures.partitioned (ends_rise 0 c.args.spans.now c.requires) (λ a r f k. search rules)).0

pub returns-clause-rest : goal.returns-clause-rest
returns-clause-rest c =
    (below_parts (λ t. t.hi) c.args.number c.args.spans.now c.partition_point.result c.partition_point.ensures.partitioned (ends_rise 0 c.args.spans.now c.requires) (λ a r f k. search rules)).1
