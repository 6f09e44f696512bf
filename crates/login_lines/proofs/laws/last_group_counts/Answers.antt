use Rattle.login_lines.proofs.LineLaws.{last_group}
use Rattle.login_lines.proofs.laws.last_group_counts.Goals as goal

pub returns : goal.returns
returns c = last_group
