use Rattle.span_sets.proofs.Common.{◌<◌, arith, hi_of}
use Rattle.span_sets.proofs.PageRows.{fewer_pages, rest_after}
use Rattle.span_sets.proofs.pages.page_for.Goals as goal

pub returns-clause-below : goal.returns-clause-below
returns-clause-below c =
    fewer_pages (λ e. hi_of e < c.args.lo) c.args.pages.now c.min.result c.pages_ending_below.result (omega arith) c.pages_ending_below.ensures.below

pub returns-clause-after : goal.returns-clause-after
returns-clause-after c =
    rest_after c.args.pages.now c.pages_ending_below.result c.min.result c.args.lo c.requires.order c.pages_ending_below.ensures.within c.pages_ending_below.ensures.reach (omega arith)
