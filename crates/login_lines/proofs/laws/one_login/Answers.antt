use Rattle.login_lines.proofs.LineLaws.{one_login}
use Rattle.login_lines.proofs.laws.one_login.Goals as goal

pub returns : goal.returns
returns c = one_login
