-- Each fact is shown, or ends the run.
use Rattle.krl_entries.specs.Facts.{fact_of}
use Rattle.show_run.proofs.Common.{[], ◌∷◌, err_from_is_err_and, HeldFact}
use Rattle.show_run.proofs.Showing.{all_shown, more_shown, none_shown, showing_stops}
use Rattle.show_run.proofs.walk.show_held.Goals as goal

pub loop-fact-init : goal.loop-fact-init
loop-fact-init g c = rw (c.into_iter-fact-iterator.ensures.into_iter_gives, c.facts-fact-items.ensures) (none_shown _ _ _ _)

pub loop-fact-preserved : goal.loop-fact-preserved
loop-fact-preserved g c =
    let is = rw c.in-Some.ensures.steps at c.loop-fact.invariant in
    more_shown _ _ (HeldFact (fact_of c.in-Some.fact) ∷ []) _ _ _ _ _ _ _ is c.in_ok-show_fact.ensures

pub returns-in_err-show_fact : goal.returns-in_err-show_fact
returns-in_err-show_fact g c =
    let p = err_from_is_err_and c.from_residual.result c.from_residual.ensures.1 in
    let is = rw c.in-Some.ensures.steps at c.loop-fact.invariant in
    rw (p.1, p.2) (showing_stops _ _ (HeldFact (fact_of c.in-Some.fact) ∷ []) _ _ _ _ _ _ _ _ _ is c.in_err-show_fact.ensures)

pub returns : goal.returns
returns g c = all_shown _ _ _ _ _ _ (rw c.in-None.ensures.steps.0 at c.loop-fact.invariant)
