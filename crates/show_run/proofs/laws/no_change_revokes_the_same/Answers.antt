use Rattle.show_run.proofs.SameLists.{revoked_alike, revoked_same}
use Rattle.show_run.proofs.laws.no_change_revokes_the_same.Goals as goal

pub returns-clause-compared : goal.returns-clause-compared
returns-clause-compared c = revoked_alike

pub returns-clause-run : goal.returns-clause-run
returns-clause-run c = revoked_same
