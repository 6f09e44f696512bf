-- What the rest of the batch gives is what the whole batch gives.
use Rattle.std.proofs.Common.{Option, Result, length}
use Rattle.run_faults.specs.RunFault.{RunFault}
use Rattle.krl_audit.specs.declared.auditor.Auditor.{Auditor}
use Rattle.login_run.specs.Log.{Takes, parts_of}
use Rattle.login_run.specs.declared.batch.LineStart.{LineStart}
use Rattle.login_run.specs.declared.batch.Stop.{Stop}
use Rattle.login_run.proofs.batch.audit_batch.Given as goal

abbrev pub invariant-parts : goal.invariant-parts
invariant-parts g l = record {
  takes : (next : LineStart) (result : Result (Option Stop) RunFault) (new : Auditor g.row.W.Denot)
      → Takes l.name (parts_of l.rest) l.start next result l.auditor new
      → Takes l.name (parts_of l.fn.batch) l.initial.start next result l.initial.auditor new;
}

abbrev pub decreases-parts : goal.decreases-parts
decreases-parts g l = length l.rest
