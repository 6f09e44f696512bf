use Rattle.sshd_files.proofs.Expansions.{text_found, text_only}
use Rattle.sshd_files.proofs.laws.word_stands_for_one_text.Goals as goal

pub returns-clause-found : goal.returns-clause-found
returns-clause-found c = text_found

pub returns-clause-only : goal.returns-clause-only
returns-clause-only c = text_only
