-- Fault by fault.
use Rattle.krl_c.proofs.PrintedWords.{of_line, of_list, of_subject}
use Rattle.krl_c.proofs.laws.words_are_printed.Goals as goal

pub returns : goal.returns
returns c = record { list = of_list; line = of_line; subject = of_subject }
