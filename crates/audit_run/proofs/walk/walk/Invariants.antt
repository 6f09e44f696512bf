-- The directory was walked so far.
use Rattle.audit_run.specs.Visits.{State}
use Rattle.audit_run.specs.Walk.{Walked, entering, levels_of}
use Rattle.audit_run.proofs.walk.walk.Given as goal

abbrev pub invariant-turns : goal.invariant-turns
invariant-turns g l = (begun : State)
    → Walked (g.T.Tree.states l.tree) l.search l.path 0 (levels_of l.initial.entered.items) (entering begun) l.initial.round
    → Walked (g.T.Tree.states l.tree) l.search l.path l._turn (levels_of l.entered.items) (entering begun) l.round
