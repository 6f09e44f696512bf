use Rattle.span_sets.proofs.Common.{[], ◌++◌, ◌<◌, ◌∙◌, ◌≡◌, ◌≤◌, ◌⊎◌, All, ap, arith, Chunk}
use Rattle.span_sets.proofs.Common.{chunks_in, chunks_of, ChunksFrom, CutTo, drop, drop_all, end_of}
use Rattle.span_sets.proofs.Common.{get_or, hi_of, length, lo_of, subst, sym, take, take_rest}
use Rattle.span_sets.specs.declared.page.Page.{Page}
use Rattle.span_sets.proofs.ListsOfLists.{removed_back, removed_more, removed_rest, removed_first}
use Rattle.span_sets.proofs.ListsOfLists.{first_of, flat_drop_set}
use Rattle.span_sets.proofs.PageRows.{order_page, all_page, cut_all, cut_some}
use Rattle.span_sets.proofs.pages.cut_from.Goals as goal

-- the first page that is left is the first that is not removed
first : (c : goal.After-index_mut) → (c.pages_ending_upto-gone.result < length (drop c.args.from c.args.pages.now.items))
    × (c.index_mut.result.now ≡ get_or (drop c.args.from c.args.pages.now.items) c.pages_ending_upto-gone.result c.index_mut.result.now)
first c =
    let some : c.args.from < length c.remove.new.items.items = omega (arith, c.if-from-len.true) in
    removed_first c.args.pages.now.items c.remove.new.items.items c.args.from c.pages_ending_upto-gone.result c.index_mut.result.now c.remove.ensures (omega arith) some c.index_mut.ensures.value

pub cut_to-requires-clause-order : goal.cut_to-requires-clause-order
cut_to-requires-clause-order c =
    subst (λ p. ChunksFrom 0 (chunks_in p)) (sym (first c).1)
    (order_page (drop c.args.from c.args.pages.now.items) c.pages_ending_upto-gone.result c.index_mut.result.now (first c).0 c.requires.order)

pub cut_to-requires-clause-whole : goal.cut_to-requires-clause-whole
cut_to-requires-clause-whole c =
    let P : Chunk → Type 0 = λ e. (hi_of e ≤ c.args.number) ⊎ (c.args.number < lo_of e) in
    subst (λ p. All P (chunks_in p)) (sym (first c).1)
    (all_page P (drop c.args.from c.args.pages.now.items) c.pages_ending_upto-gone.result c.index_mut.result.now (first c).0 c.requires.whole)

pub cut_to-requires-clause-past : goal.cut_to-requires-clause-past
cut_to-requires-clause-past c =
    let P : Page → Type 0 = λ p. c.args.number < end_of (chunks_in p) in
    let gone = c.pages_ending_upto-gone in
    let tail_is = take_rest c.deref.result.now c.args.from ∙ ap (drop c.args.from) c.deref.ensures.value in
    subst P (sym (first c).1)
    (first_of P (drop c.args.from c.args.pages.now.items) gone.result c.index_mut.result.now (first c).0 (subst (λ l. All P (drop gone.result l)) tail_is gone.ensures.past))

pub returns-then-from-len-clause-cut : goal.returns-then-from-len-clause-cut
returns-then-from-len-clause-cut c =
    let xs = c.args.pages.now.items in
    let from = c.args.from in
    let tail = drop from xs in
    let n = c.args.number in
    let gone = c.pages_ending_upto-gone.result in
    let ys = c.remove.new.items.items in
    let left = chunks_in c.cut_to.new.self in
    let some : from < length ys = omega (arith, c.if-from-len.true) in
    let rest = removed_rest tail ys from gone (removed_back xs ys from gone c.remove.ensures (omega arith)) in
    let tail_is = take_rest c.deref.result.now from ∙ ap (drop from) c.deref.ensures.value in
    let by = subst (λ l. All (λ e. hi_of e ≤ n) (chunks_of (take gone l))) tail_is c.pages_ending_upto-gone.ensures.upto in
    let y = c.index_mut.result.now in
    let first = removed_first xs ys from gone y c.remove.ensures (omega arith) some c.index_mut.ensures.value in
    let ends = subst (λ l. All (λ p. n < end_of (chunks_in p)) (drop gone l)) tail_is c.pages_ending_upto-gone.ensures.past in
    let past = first_of (λ p. n < end_of (chunks_in p)) tail gone y first.0 ends in
    let k = subst (λ p. CutTo (chunks_in p) n left) first.1 c.cut_to.ensures in
    subst (CutTo (chunks_of tail) n) (sym (flat_drop_set chunks_in ys from c.cut_to.new.self some ∙ ap (λ l. left ++ chunks_of l) rest))
    (cut_some tail gone n y left c.requires.order first.0 by past k)

pub returns-else-from-len-clause-cut : goal.returns-else-from-len-clause-cut
returns-else-from-len-clause-cut c =
    let xs = c.args.pages.now.items in
    let from = c.args.from in
    let tail = drop from xs in
    let n = c.args.number in
    let gone = c.pages_ending_upto-gone.result in
    let ys = c.remove.new.items.items in
    let removed = c.remove.ensures in
    let back = removed_back xs ys from gone removed (omega arith) in
    let more = removed_more tail ys from gone back in
    let tail_is = take_rest c.deref.result.now from ∙ ap (drop from) c.deref.ensures.value in
    let by = subst (λ l. All (λ e. hi_of e ≤ n) (chunks_of (take gone l))) tail_is c.pages_ending_upto-gone.ensures.upto in
    let none : drop from ys ≡ [] = drop_all from ys (omega arith) in
    subst (λ l. CutTo (chunks_of tail) n (chunks_of l)) (sym none) (cut_all tail gone n (more.1 (omega arith)) by)
