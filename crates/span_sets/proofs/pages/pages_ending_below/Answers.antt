use Rattle.std.proofs.Common.{take}
use Rattle.span_sets.proofs.PageRows.{pages_rise, pages_below, order_left}
use Rattle.span_sets.proofs.pages.pages_ending_below.Goals as goal

pub count_ending_below-requires : goal.count_ending_below-requires
count_ending_below-requires c = pages_rise 0 c.args.pages.now c.requires

pub returns-clause-below : goal.returns-clause-below
returns-clause-below c =
    let n = c.count_ending_below in
    pages_below c.args.number 0 (take n.result c.args.pages.now) (order_left 0 c.args.pages.now n.result c.requires) n.ensures.below
