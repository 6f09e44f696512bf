-- The facts so far are shown, and the others are left.
use Rattle.show_run.proofs.Common.{facts_of, HeldFact, map}
use Rattle.show_run.proofs.Showing.{IsShown}
use Rattle.show_run.proofs.walk.show_held.Given as goal

abbrev pub invariant-loop-fact : goal.invariant-loop-fact
invariant-loop-fact g l = IsShown l.form (facts_of l.held) (map HeldFact l.fact-iterator) l.initial.run.printer l.run.printer l.initial.counts l.counts
