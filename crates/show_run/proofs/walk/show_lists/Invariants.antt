-- The lists so far are shown, and the others are left.
use Rattle.show_run.proofs.Common.{drop, lists_facts}
use Rattle.show_run.proofs.Showing.{IsShown}
use Rattle.show_run.proofs.walk.show_lists.Given as goal

abbrev pub invariant-loop-list : goal.invariant-loop-list
invariant-loop-list g l = IsShown l.form (lists_facts l.lists) (lists_facts (drop l.list-index l.lists)) l.initial.run.printer l.run.printer l.initial.counts l.counts
