use Rattle.span_sets.proofs.Common.{◌<◌, ◌≤◌, All, chunks_in, ChunksFrom, drop, hi_of, subst, sym}
use Rattle.span_sets.proofs.Common.{take}
use Rattle.span_sets.proofs.PageChunks.{cut_page}
use Rattle.span_sets.proofs.ChunkOrder.{count_less, his_rise}
use Rattle.span_sets.proofs.page.Page.cut_to.Goals as goal

pub count_ending_upto-count-requires : goal.count_ending_upto-count-requires
count_ending_upto-count-requires c = his_rise 0 _ (subst (ChunksFrom 0) (sym c.as_slice.ensures) c.requires.order)

pub cut_front-requires : goal.cut_front-requires
cut_front-requires c =
    let n = c.count_ending_upto-count in
    let upto = subst (λ l. All (λ e. hi_of e ≤ c.args.number) (take n.result l)) c.as_slice.ensures n.ensures.upto in
    count_less c.args.number n.result (chunks_in c.args.self.now) upto c.requires.past

pub returns : goal.returns
returns c =
    let n = c.count_ending_upto-count in
    let upto = subst (λ l. All (λ e. hi_of e ≤ c.args.number) (take n.result l)) c.as_slice.ensures n.ensures.upto in
    let past = subst (λ l. All (λ e. c.args.number < hi_of e) (drop n.result l)) c.as_slice.ensures n.ensures.past in
    cut_page (chunks_in c.args.self.now) (chunks_in c.cut_front.new.self) c.args.number n.result c.requires.whole upto past c.cut_front.ensures
