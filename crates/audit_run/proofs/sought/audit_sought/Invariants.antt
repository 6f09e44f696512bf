-- The files so far lead to what was audited.
use Rattle.std.proofs.Common.{true, List, None, take}
use Rattle.audit_run.specs.Named.{Each}
use Rattle.audit_run.specs.Sought.{IsSought}
use Rattle.audit_run.specs.Visits.{AuditsBy, Visit}
use Rattle.audit_run.proofs.sought.audit_sought.Given as goal

abbrev pub invariant-loop-file : goal.invariant-loop-file
invariant-loop-file g l = record {
  audited : (visits : List Visit)
      × (Each (IsSought (g.T.Tree.states l.tree)) true (take l.file-index l.files) visits
      × AuditsBy visits None l.initial.round l.round);
}
