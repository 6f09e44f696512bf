use Rattle.span_sets.proofs.Common.{arith, chunks_in, ChunksFrom, subst, sym}
use Rattle.span_sets.proofs.ListsOfLists.{flat_same}
use Rattle.span_sets.proofs.PageRows.{order_page, widened_pages}
use Rattle.span_sets.proofs.pages.set_bits_in.Goals as goal

pub set_bits-requires-clause-order : goal.set_bits-requires-clause-order
set_bits-requires-clause-order c =
    let page = c.index_mut.result.now in
    subst (λ p. ChunksFrom 0 (chunks_in p)) (sym c.index_mut.ensures.value) (order_page c.args.pages.now.items c.pages_ending_below-at.result page (omega arith) c.requires.order)

pub returns-clause-set : goal.returns-clause-set
returns-clause-set c t =
    widened_pages c.args.pages.now.items c.pages_ending_below-at.result c.args.window c.args.bits c.index_mut.result.now c.set_bits.new.self (omega arith) c.index_mut.ensures.value (c.set_bits.ensures.set t)

pub returns-clause-same : goal.returns-clause-same
returns-clause-same c f =
    flat_same chunks_in c.args.pages.now.items c.pages_ending_below-at.result c.index_mut.result.now c.set_bits.new.self (omega arith) c.index_mut.ensures.value (c.set_bits.ensures.same f)
