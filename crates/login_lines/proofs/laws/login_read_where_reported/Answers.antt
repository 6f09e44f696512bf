use Rattle.login_lines.proofs.LineLaws.{login_again, login_found}
use Rattle.login_lines.proofs.laws.login_read_where_reported.Goals as goal

pub returns : goal.returns
returns c = λ line login fits. (login_found line login fits, login_again line login)
