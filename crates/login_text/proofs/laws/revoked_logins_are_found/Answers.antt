use Rattle.login_text.proofs.Fitting.{login_found}
use Rattle.login_text.proofs.laws.revoked_logins_are_found.Goals as goal

pub returns : goal.returns
returns c = login_found
