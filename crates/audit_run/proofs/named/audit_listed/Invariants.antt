-- The names that the reader gave were audited.
use Rattle.std.proofs.Common.{true, [], None}
use Rattle.audit_run.proofs.Inputs.{HasListed}
use Rattle.audit_run.proofs.named.audit_listed.Given as goal

abbrev pub invariant-names : goal.invariant-names
invariant-names g l =
    HasListed (g.T.Tree.states l.tree) l.search true l.initial.reader l.reader [] None l.initial.round l.round

abbrev pub decreases-names : goal.decreases-names
decreases-names g l = l.reader.room
