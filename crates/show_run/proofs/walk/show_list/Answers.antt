-- The name and header are shown, and what the list names, or the run ends.
use Rattle.show_run.proofs.Common.{[], ◌∷◌, err_from_is_err_and, facts_of, list_facts, ListFact}
use Rattle.show_run.proofs.Showing.{list_shown, shows_stop, shows_then}
use Rattle.show_run.proofs.walk.show_list.Goals as goal

pub returns-in_err-show_fact : goal.returns-in_err-show_fact
unfolding list_facts
returns-in_err-show_fact g c =
    let p = err_from_is_err_and c.from_residual.result c.from_residual.ensures.1 in
    let list = c.args.list.now in
    let first = list_shown c.args.form list.name c.header.result list.header _ _ _ _ _ c.header.ensures c.in_err-show_fact.ensures in
    rw (p.1, p.2) (shows_stop c.args.form (ListFact list.name.now list.header ∷ []) (facts_of list.revocations) _ _ _ _ _ _ first)

pub returns : goal.returns
unfolding list_facts
returns g c =
    let list = c.args.list.now in
    let first = list_shown c.args.form list.name c.header.result list.header _ _ _ _ _ c.header.ensures c.in_ok-show_fact.ensures in
    shows_then c.args.form (ListFact list.name.now list.header ∷ []) (facts_of list.revocations) _ _ _ _ _ _ _ first c.show_held.ensures
