use Rattle.span_sets.proofs.Common.{◌<◌, ◌∙◌, ◌≤◌, All, ap, arith, chunks_in, chunks_of, ChunksFrom}
use Rattle.span_sets.proofs.Common.{drop, end_of, hi_of, IsListFrom, length, subst, sym, take}
use Rattle.span_sets.proofs.ListsOfLists.{first_of}
use Rattle.span_sets.proofs.PageRows.{order_page, list_at, list_none}
use Rattle.span_sets.proofs.pages.list_in.Goals as goal

pub returns-then-at-pages : goal.returns-then-at-pages
returns-then-at-pages c =
    let at = c.pages_ending_below-at in
    list_none c.args.pages.now at.result c.args.number (omega arith) at.ensures.below

pub list_in_page-requires : goal.list_in_page-requires
list_in_page-requires c =
    let page = c.index-pages-at in
    subst (λ p. ChunksFrom 0 (chunks_in p)) (sym page.is) (order_page c.args.pages.now c.pages_ending_below-at.result page.result (omega arith) c.requires)

pub returns : goal.returns
returns c =
    let ps = c.args.pages.now in
    let at = c.pages_ending_below-at in
    let n = c.args.number in
    let page = c.index-pages-at in
    let e = c.list_in_page.ensures in
    let within : at.result < length ps = omega arith in
    let end = first_of (λ p. n ≤ end_of (chunks_in p)) ps at.result page.result within at.ensures.reach in
    let below = subst (λ p. All (λ e. hi_of e < n) (take e.0 (chunks_in p))) page.is e.1.1 in
    let reach = subst (λ p. All (λ e. n ≤ hi_of e) (drop e.0 (chunks_in p))) page.is e.1.2 in
    subst (IsListFrom (chunks_of ps) n) (sym (e.1.0 ∙ ap (λ p. drop e.0 (chunks_in p)) page.is))
    (list_at ps at.result e.0 n page.result within at.ensures.below end below reach)
