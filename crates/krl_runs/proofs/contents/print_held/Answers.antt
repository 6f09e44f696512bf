-- The line of each fact is printed, or ends the run.
use Rattle.krl_entries.specs.Facts.{fact_of}
use Rattle.krl_runs.proofs.Common.{[], ◌∷◌, contents_lines, err_from_is_err_and, fact_line}
use Rattle.krl_runs.proofs.PrintedContents.{more_said, none_said, saying_stops}
use Rattle.krl_runs.proofs.contents.print_held.Goals as goal

pub loop-fact-init : goal.loop-fact-init
unfolding contents_lines
loop-fact-init g c = rw (c.into_iter-fact-iterator.ensures.into_iter_gives, c.facts-fact-items.ensures) (none_said _ _ _)

pub loop-fact-preserved : goal.loop-fact-preserved
loop-fact-preserved g c =
    let text = fact_line (fact_of c.in-Some.fact) in
    let one = c.in_ok-say_line.ensures text c.write_fact-made.ensures in
    let is = rw c.in-Some.ensures.steps at c.loop-fact.invariant in
    more_said _ _ (text ∷ []) _ _ _ _ is one

pub returns-in_err-say_line : goal.returns-in_err-say_line
returns-in_err-say_line g c =
    let p = err_from_is_err_and c.from_residual.result c.from_residual.ensures.1 in
    let text = fact_line (fact_of c.in-Some.fact) in
    let one = c.in_err-say_line.ensures text c.write_fact-made.ensures in
    let is = rw c.in-Some.ensures.steps at c.loop-fact.invariant in
    rw (p.1, p.2) (saying_stops _ _ (text ∷ []) _ _ _ _ _ is one)
