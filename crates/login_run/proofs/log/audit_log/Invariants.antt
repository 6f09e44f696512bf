-- What came so far was told.
use Rattle.std.proofs.Common.{◌≡◌, false, length}
use Rattle.login_run.proofs.Logs.{AtBatch}
use Rattle.login_run.proofs.log.audit_log.Given as goal

abbrev pub invariant-batches : goal.invariant-batches
invariant-batches g l = record {
  at : AtBatch l.name (g.R.Source.left l.initial.reader) (g.R.Source.left l.reader) l._batch l.start l.initial.auditor l.auditor;
  working : g.R.Source.has_failed l.reader ≡ false;
  size : length l.batch ≡ 65536;
}
