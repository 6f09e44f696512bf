-- What the logs that are left give is what all logs give.
use Rattle.std.proofs.Common.{◌≡◌, ℕ, false, drop, IfSome, Result}
use Rattle.std.specs.Prelude.{not}
use Rattle.run_faults.specs.RunFault.{RunFault}
use Rattle.audit_run.specs.Reading.{SomeFailed, left_in}
use Rattle.krl_audit.specs.declared.auditor.Auditor.{Auditor}
use Rattle.login_run.specs.Visits.{VisitsAll}
use Rattle.login_run.proofs.visit.visit_all.Given as goal

abbrev pub invariant-loop-name : goal.invariant-loop-name
invariant-loop-name g l = record {
  visits : (result : Result ℕ RunFault) (new : Auditor g.row.W.Denot)
      → VisitsAll (g.T.Tree.states l.tree) (SomeFailed g.I.Source.has_failed) (not l.initial.auditor.judge.shown.revoked) l.count (drop l.name-index l.names) (left_in g.I.Source.left l.input) result l.auditor new
      → VisitsAll (g.T.Tree.states l.tree) (SomeFailed g.I.Source.has_failed) (not l.initial.auditor.judge.shown.revoked) 0 l.names (left_in g.I.Source.left l.initial.input) result l.initial.auditor new;
  counted : l.count ≡ l.name-index;
  judge : l.auditor.judge ≡ l.initial.auditor.judge;
  working : IfSome l.input (λ input. g.I.Source.has_failed input ≡ false);
}
