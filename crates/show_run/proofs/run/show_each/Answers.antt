-- The lists and the last line are shown, or end the run.
use Rattle.show_run.proofs.Common.{carries_more, carries_then, err_from_is_err_and, fact_items}
use Rattle.show_run.proofs.Common.{lists_facts}
use Rattle.show_run.specs.Run.{run_items}
use Rattle.show_run.proofs.run.show_each.Goals as goal

pub returns-in_err-show_lists : goal.returns-in_err-show_lists
unfolding run_items
returns-in_err-show_lists g c =
    let p = err_from_is_err_and c.from_residual.result c.from_residual.ensures.1 in
    let facts = lists_facts c.args.lists.now in
    rw (p.1, p.2) (carries_more {A = Unit {0}} {B = Unit {0}} (fact_items c.args.form facts) _ _ _ _ c.in_err-show_lists.ensures.carries)

pub returns : goal.returns
unfolding run_items
returns g c =
    let facts = lists_facts c.args.lists.now in
    let last = rw c.in_ok-show_lists.ensures.count at c.show_last.ensures in
    carries_then (fact_items c.args.form facts) _ tt _ _ _ _ c.in_ok-show_lists.ensures.carries last
