use Rattle.span_sets.proofs.Common.{◌-◌, ◌<◌, ◌∙◌, ◌≡◌, ◌≤◌, All, ap, chunks_in, ChunksFrom, drop}
use Rattle.span_sets.proofs.Common.{hi_of, IsNonDecreasingBy, length, subst, sym, take, take_rest}
use Rattle.span_sets.proofs.ChunkOrder.{his_rise, order_drop}
use Rattle.span_sets.proofs.PageChunks.{replaced_at}
use Rattle.span_sets.proofs.ResultFacts.{on_ok}
use Rattle.span_sets.proofs.page.Page.put.Goals as goal

pub count_ending_below-from-requires : goal.count_ending_below-from-requires
count_ending_below-from-requires c = his_rise 0 _ (subst (ChunksFrom 0) (sym c.as_slice-chunks.ensures) c.requires.order)

pub count_ending_upto-requires : goal.count_ending_upto-requires
count_ending_upto-requires c =
    let l = c.as_slice-chunks.result.now in
    let from = c.count_ending_below-from.result in
    subst (IsNonDecreasingBy hi_of) (sym (take_rest l from)) (his_rise 0 _ (order_drop 0 l from (subst (ChunksFrom 0) (sym c.as_slice-chunks.ensures) c.requires.order)))

pub returns-clause-put : goal.returns-clause-put
returns-clause-put c =
    let l = c.as_slice-chunks.result.now in
    let es = chunks_in c.args.self.now in
    let read : l ≡ es = c.as_slice-chunks.ensures in
    let from = c.count_ending_below-from in
    let n = c.count_ending_upto in
    let lo = c.args.lo in
    let hi = c.args.hi in
    let rest_is : take (length l - from.result) (drop from.result l) ≡ drop from.result es = take_rest l from.result ∙ ap (drop from.result) read in
    let upto = subst (λ m. All (λ e. hi_of e ≤ hi) (take n.result m)) rest_is n.ensures.upto in
    let past = subst (λ m. All (λ e. hi < hi_of e) (drop n.result m)) rest_is n.ensures.past in
    let below = subst (λ m. All (λ e. hi_of e < lo) (take from.result m)) read from.ensures.below in
    let reach = subst (λ m. All (λ e. lo ≤ hi_of e) (drop from.result m)) read from.ensures.reach in
    on_ok c.splice.result _ _ (replaced_at es c.args.few.now (chunks_in c.splice.new.self) lo hi from.result n.result c.requires.whole below reach upto past) c.splice.ensures.put
