use Rattle.span_sets.proofs.Common.{◌+◌, ◌<◌, ◌∙◌, ◌≡◌, ap, arith, get_or, get_or-drop}
use Rattle.span_sets.proofs.Common.{get_or_default, length-drop, subst, sym}
use Rattle.span_sets.proofs.search.count_ending_upto.Goals as goal

pub returns-else-end-number-clause-past : goal.returns-else-end-number-clause-past
returns-else-end-number-clause-past g c k d h =
    let items = c.args.items.now in
    let count = c.loop-count.count in
    let long = length-drop count items in
    let test = c.loop-count-test.true in
    let here : c.index-items-count.result ≡ get_or items count d = c.index-items-count.is ∙ get_or_default items count c.index-items-count.result d test in
    subst (λ x. c.args.number < g.T.HasEnd.end x) (sym (get_or-drop count items k d))
    (omega (arith, c.requires count (count + k) d (omega arith) (omega arith), ap g.T.HasEnd.end here, c.end.ensures, c.if-end-number.false))
