use Rattle.std.proofs.Common.{◌<◌, length, sym, ap, subst, arith, ◌∙◌, length-set}
use Rattle.span_sets.specs.Chunk.{hi_of, ChunksFrom}
use Rattle.span_sets.proofs.ChunkOrder.{end_set, his_rise}
use Rattle.span_sets.proofs.PageChunks.{widened_at}
use Rattle.span_sets.proofs.page.Page.set_bits.Goals as goal

pub count_ending_below-at-requires : goal.count_ending_below-at-requires
count_ending_below-at-requires c = his_rise 0 _ (subst (ChunksFrom 0) (sym c.as_slice.ensures) c.requires.order)

pub invariant_of-self-clause-most : goal.invariant_of-self-clause-most
invariant_of-self-clause-most c =
    let page = c.args.self.now in
    omega (arith, page.most, length-set page.items.items c.count_ending_below-at.result c.in-Some.wider)

pub invariant_of-self-clause-ending : goal.invariant_of-self-clause-ending
invariant_of-self-clause-ending c =
    let page = c.args.self.now in
    let xs = page.items.items in
    let at = c.count_ending_below-at.result in
    let chunk = c.index.result.now in
    let within : at < length xs = omega arith in
    let block = c.in-Some.ensures in
    page.ending ∙ sym (end_set xs at c.in-Some.wider chunk within (block.hi.1 ∙ sym block.hi.0 ∙ ap hi_of c.index.ensures))

pub returns-clause-set : goal.returns-clause-set
returns-clause-set c t =
    let xs = c.args.self.now.items.items in
    widened_at xs c.count_ending_below-at.result c.args.window c.args.bits c.index.result.now c.in-Some.wider (omega arith) c.index.ensures c.in-Some.ensures
