use Rattle.span_sets.proofs.Common.{◌+◌, ◌-◌, ◌<◌, ◌≡◌, ◌≤◌, All, ap, arith, chunks_in, chunks_of}
use Rattle.span_sets.proofs.Common.{drop, end_of, get_or, hi_of, stretch, subst, sym}
use Rattle.span_sets.proofs.PageRows.{all_before, past_page}
use Rattle.span_sets.proofs.pages.page_of_two.Goals as goal

pub returns-then-end-lo : goal.returns-then-end-lo
returns-then-end-lo c =
    let ps = c.args.pages.now in
    let at = c.args.at in
    let page = c.index-pages-at in
    let one : at + 1 - 1 ≡ at = omega arith in
    let two : at + 2 ≡ at + 1 + 1 = omega arith in
    let last : end_of (chunks_in (get_or ps at page.result)) < c.args.lo = omega (arith, ap (λ p. end_of (chunks_in p)) page.is) in
    record {
      within = c.requires.within;
      below = all_before ps (at + 1) c.args.lo page.result c.requires.order (omega arith) (omega arith) (subst (λ n. end_of (chunks_in (get_or ps n page.result)) < c.args.lo) (sym one) last);
      after = subst (λ n. All (λ e. c.args.lo ≤ hi_of e) (chunks_of (drop n ps))) two c.requires.after;
      room = c.requires.back;
    }

pub returns-else-end-lo : goal.returns-else-end-lo
returns-else-end-lo c =
    let ps = c.args.pages.now in
    let at = c.args.at in
    let page = c.index-pages-at in
    let end : c.args.lo ≤ end_of (chunks_in (get_or ps at page.result)) = omega (arith, ap (λ p. end_of (chunks_in p)) page.is) in
    let later = past_page ps at page.result (omega arith) c.requires.order in
    record {
      within = omega arith;
      below = c.requires.below;
      after = λ k d q. let from = later k d q in let whole = stretch (get_or (chunks_of (drop (at + 1) ps)) k d) in omega arith;
      room = c.requires.front;
    }
