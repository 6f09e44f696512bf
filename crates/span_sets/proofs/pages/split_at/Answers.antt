use Rattle.span_sets.proofs.Common.{◌<◌, ◌∙◌, ◌≡◌, ap, arith, chunks_in, chunks_of, ChunksFrom}
use Rattle.span_sets.proofs.Common.{get_or, is_ok, IsSplit, length, subst, sym, true}
use Rattle.span_sets.proofs.ListsOfLists.{flat_same, flat_split}
use Rattle.span_sets.proofs.PageRows.{order_page, split_is}
use Rattle.span_sets.proofs.pages.split_at.Goals as goal

pub split-requires-clause-order : goal.split-requires-clause-order
split-requires-clause-order c =
    let ys = c.reserve.new.self.items in
    let same = c.reserve.ensures.items in
    let order : ChunksFrom 0 (chunks_of ys) = subst (λ l. ChunksFrom 0 (chunks_of l)) (sym same) c.requires.order in
    let within : c.args.at < length ys = omega (arith, ap length same) in
    subst (λ p. ChunksFrom 0 (chunks_in p)) (sym c.index_mut.ensures.value) (order_page ys c.args.at c.index_mut.result.now within order)

pub split-requires-clause-full : goal.split-requires-clause-full
split-requires-clause-full c =
    let page = c.index_mut.result.now in
    let is : page ≡ get_or c.args.pages.now.items c.args.at page = c.index_mut.ensures.value ∙ ap (λ l. get_or l c.args.at page) c.reserve.ensures.items in
    subst (λ p. 253 < length (chunks_in p)) (sym is) (c.requires.full page)

pub returns-in_err-back-clause-same : goal.returns-in_err-back-clause-same
returns-in_err-back-clause-same c =
    let same = c.reserve.ensures.items in
    flat_same chunks_in c.reserve.new.self.items c.args.at c.index_mut.result.now c.split.new.self (omega (arith, ap length same)) c.index_mut.ensures.value c.in_err-back.ensures.refused
    ∙ ap chunks_of same

pub returns-clause-same : goal.returns-clause-same
returns-clause-same c =
    let same = c.reserve.ensures.items in
    let room = c.in_ok-reserve.ensures.ok in
    let ok : is_ok c.insert_at.result ≡ true = c.insert_at.ensures.succeeds (omega (arith, room)) in
    let made = rw ok at c.insert_at.ensures.items in
    ap chunks_of made
    ∙ flat_split chunks_in c.reserve.new.self.items c.args.at c.index_mut.result.now c.split.new.self c.in_ok-back.back (omega (arith, ap length same)) c.index_mut.ensures.value c.in_ok-back.ensures.whole
    ∙ ap chunks_of same

pub returns-clause-split : goal.returns-clause-split
returns-clause-split c =
    let same = c.reserve.ensures.items in
    let room = c.in_ok-reserve.ensures.ok in
    let ok : is_ok c.insert_at.result ≡ true = c.insert_at.ensures.succeeds (omega (arith, room)) in
    let made = rw ok at c.insert_at.ensures.items in
    subst (λ l. IsSplit l c.args.at c.insert_at.new.items.items) same
    (split_is c.reserve.new.self.items c.insert_at.new.items.items c.args.at c.split.new.self c.in_ok-back.back (omega (arith, ap length same)) made c.in_ok-back.ensures.room c.in_ok-back.ensures.back)
