use Rattle.check_run.proofs.Passing.{all_revoked, passed}
use Rattle.check_run.proofs.PassedRuns.{passed_run}
use Rattle.check_run.proofs.laws.passed_revokes_all.Goals as goal

pub returns-clause-lost : goal.returns-clause-lost
returns-clause-lost c = all_revoked

pub returns-clause-passed : goal.returns-clause-passed
returns-clause-passed c = passed

pub returns-clause-run : goal.returns-clause-run
returns-clause-run c = passed_run
