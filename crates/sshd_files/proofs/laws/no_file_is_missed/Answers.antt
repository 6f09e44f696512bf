use Rattle.sshd_files.proofs.Members.{hosts_not_missed, users_not_missed}
use Rattle.sshd_files.proofs.laws.no_file_is_missed.Goals as goal

pub returns-clause-users : goal.returns-clause-users
returns-clause-users c = users_not_missed

pub returns-clause-hosts : goal.returns-clause-hosts
returns-clause-hosts c = hosts_not_missed
