use Rattle.std.proofs.Common.{take}
use Rattle.span_sets.proofs.PageRows.{pages_rise, pages_upto, order_left}
use Rattle.span_sets.proofs.pages.pages_ending_upto.Goals as goal

pub count_ending_upto-requires : goal.count_ending_upto-requires
count_ending_upto-requires c = pages_rise 0 c.args.pages.now c.requires

pub returns-clause-upto : goal.returns-clause-upto
returns-clause-upto c =
    let n = c.count_ending_upto in
    pages_upto c.args.number 0 (take n.result c.args.pages.now) (order_left 0 c.args.pages.now n.result c.requires) n.ensures.upto
