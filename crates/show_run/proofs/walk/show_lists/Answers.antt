-- Each list is shown, or ends the run.
use Rattle.show_run.proofs.Common.{err_from_is_err_and, list_facts}
use Rattle.show_run.proofs.Showing.{all_shown, lists_end, lists_next, more_shown, none_shown}
use Rattle.show_run.proofs.Showing.{showing_stops}
use Rattle.show_run.proofs.walk.show_lists.Goals as goal

pub loop-list-init : goal.loop-list-init
loop-list-init g c = none_shown _ _ _ _

pub returns-in_err-show_list : goal.returns-in_err-show_list
returns-in_err-show_list g c =
    let p = err_from_is_err_and c.from_residual.result c.from_residual.ensures.1 in
    let list = c.list-item.result in
    let is = rw (lists_next c.args.lists.now c.loop-list.list-index list c.list-item.is c.loop-list-test.true) at c.loop-list.invariant in
    rw (p.1, p.2) (showing_stops _ _ (list_facts list) _ _ _ _ _ _ _ _ _ is c.in_err-show_list.ensures)

pub loop-list-preserved : goal.loop-list-preserved
loop-list-preserved g c =
    let list = c.list-item.result in
    let is = rw (lists_next c.args.lists.now c.loop-list.list-index list c.list-item.is c.loop-list-test.true) at c.loop-list.invariant in
    more_shown _ _ (list_facts list) _ _ _ _ _ _ _ is c.in_ok-show_list.ensures

pub returns : goal.returns
returns g c = all_shown _ _ _ _ _ _ (rw (lists_end c.args.lists.now c.loop-list.list-index c.loop-list-test.false) at c.loop-list.invariant)
