use Rattle.sshd_files.proofs.Entries.{entry_again, entry_found}
use Rattle.sshd_files.proofs.laws.user_read_where_spelled.Goals as goal

pub returns : goal.returns
returns c = λ line user. (entry_found line user, entry_again line user)
