use Rattle.span_sets.proofs.Common.{ChunksFrom, subst, sym}
use Rattle.span_sets.proofs.ChunkOrder.{his_rise}
use Rattle.span_sets.proofs.pages.list_in_page.Goals as goal

pub count_ending_below-requires : goal.count_ending_below-requires
count_ending_below-requires c = his_rise 0 _ (subst (ChunksFrom 0) (sym c.as_slice-chunks.ensures) c.requires)
