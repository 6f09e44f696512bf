use Rattle.span_sets.proofs.Common.{◌+◌, ◌<◌, ◌≤◌, ◌⊎◌, All, arith, Chunk, chunks_in, chunks_of}
use Rattle.span_sets.proofs.Common.{ChunksFrom, CutTo, drop, drop-set-lt, end_of, get_or}
use Rattle.span_sets.proofs.Common.{get_or-set_same, hi_of, length, lo_of, Replaces, subst, sym}
use Rattle.span_sets.proofs.Common.{take}
use Rattle.span_sets.proofs.ListsOfLists.{flat_cut, flat_drop, flat_same, all_right}
use Rattle.span_sets.proofs.PageRows.{all_page, order_page, order_right, past_put, put_whole}
use Rattle.span_sets.proofs.ResultFacts.{on_err}
use Rattle.span_sets.proofs.pages.put_in.Goals as goal

pub put-requires-clause-order : goal.put-requires-clause-order
put-requires-clause-order c =
    let is = c.requires.page in
    let xs = c.args.pages.now.items in
    let at = c.args.at in
    let page = c.index_mut.result.now in
    subst (λ p. ChunksFrom 0 (chunks_in p)) (sym c.index_mut.ensures.value) (order_page xs at page is.within c.requires.order)

pub put-requires-clause-whole : goal.put-requires-clause-whole
put-requires-clause-whole c =
    let is = c.requires.page in
    let page = c.index_mut.result.now in
    let P : Chunk → Type 0 = λ e. (hi_of e ≤ c.args.hi) ⊎ (c.args.hi < lo_of e) in
    subst (λ p. All P (chunks_in p)) (sym c.index_mut.ensures.value) (all_page P c.args.pages.now.items c.args.at page is.within c.requires.whole)

pub put-requires-clause-room : goal.put-requires-clause-room
put-requires-clause-room c =
    let is = c.requires.page in
    subst (λ p. length (chunks_in p) ≤ 253) (sym c.index_mut.ensures.value) (is.room c.index_mut.result.now)

pub returns-in_err-put-clause-refused : goal.returns-in_err-put-clause-refused
returns-in_err-put-clause-refused c =
    let is = c.requires.page in
    on_err _ _ (flat_same chunks_in c.args.pages.now.items c.args.at c.index_mut.result.now c.put.new.self is.within c.index_mut.ensures.value c.in_err-put.ensures.refused)

pub cut_after-requires-clause-order : goal.cut_after-requires-clause-order
cut_after-requires-clause-order c =
    let xs = c.args.pages.now.items in
    let at = c.args.at in
    let later : at < at + 1 = omega arith in
    subst (λ l. ChunksFrom 0 (chunks_of l)) (sym (drop-set-lt (at + 1) xs at c.put.new.self later)) (order_right 0 xs (at + 1) c.requires.order)

pub cut_after-requires-clause-whole : goal.cut_after-requires-clause-whole
cut_after-requires-clause-whole c =
    let xs = c.args.pages.now.items in
    let at = c.args.at in
    let later : at < at + 1 = omega arith in
    let P : Chunk → Type 0 = λ e. (hi_of e ≤ c.args.hi) ⊎ (c.args.hi < lo_of e) in
    subst (λ l. All P (chunks_of l)) (sym (drop-set-lt (at + 1) xs at c.put.new.self later))
    (all_right P (chunks_of (take (at + 1) xs)) (chunks_of (drop (at + 1) xs)) (subst (All P) (flat_cut chunks_in xs (at + 1)) c.requires.whole))

pub cut_after-requires-clause-past : goal.cut_after-requires-clause-past
cut_after-requires-clause-past c =
    let is = c.requires.page in
    let xs = c.args.pages.now.items in
    let at = c.args.at in
    let page = c.index_mut.result.now in
    let new = c.put.new.self in
    let hi = c.args.hi in
    let few = c.args.few.now in
    let within : at < length xs = is.within in
    let later : at < at + 1 = omega arith in
    let rest = chunks_of (drop (at + 1) xs) in
    let order = subst (ChunksFrom 0) (flat_drop chunks_in xs at page within) (order_right 0 xs at c.requires.order) in
    let r = subst (λ p. Replaces (chunks_in p) c.args.lo hi few (chunks_in new)) c.index_mut.ensures.value c.in_ok-put.ensures.put in
    λ d past.
    let end = subst (λ p. hi < end_of (chunks_in p)) (get_or-set_same xs at new d within) past in
    subst (λ l. All (λ e. hi < lo_of e) (chunks_of l)) (sym (drop-set-lt (at + 1) xs at new later))
    (past_put (chunks_in (get_or xs at page)) rest few (chunks_in new) c.args.lo hi order c.requires.few.0 c.requires.few.2 r end)

pub returns-clause-put : goal.returns-clause-put
returns-clause-put c =
    let xs = c.args.pages.now.items in
    let at = c.args.at in
    let is = c.requires.page in
    let page = c.index_mut.result.now in
    let new = c.put.new.self in
    let lo = c.args.lo in
    let hi = c.args.hi in
    let few = c.args.few.now in
    let zs = c.cut_after.new.pages.items in
    let within : at < length xs = is.within in
    let later : at < at + 1 = omega arith in
    let r = subst (λ p. Replaces (chunks_in p) lo hi few (chunks_in new)) c.index_mut.ensures.value c.in_ok-put.ensures.put in
    let k = subst (λ l. CutTo (chunks_of l) hi (chunks_of (drop (at + 1) zs))) (drop-set-lt (at + 1) xs at new later) c.cut_after.ensures.cut in
    put_whole xs zs at new page few lo hi within c.requires.order is.below is.after r c.cut_after.ensures.before k
