use Rattle.span_sets.proofs.Common.{◌∙◌, ap, hi_of, sym}
use Rattle.span_sets.proofs.ChunkOrder.{end_at}
use Rattle.span_sets.proofs.page.last_end.Goals as goal

pub returns : goal.returns
returns c =
    c.hi.ensures ∙ ap hi_of c.index-items-items.is ∙ sym (end_at c.args.items.now 0 c.index-items-items.result c.requires)
