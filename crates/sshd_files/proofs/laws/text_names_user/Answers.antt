use Rattle.sshd_files.proofs.Expansions.{text_with_name}
use Rattle.sshd_files.proofs.laws.text_names_user.Goals as goal

pub returns : goal.returns
returns c = text_with_name
