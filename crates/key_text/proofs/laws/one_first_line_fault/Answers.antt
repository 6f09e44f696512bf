use Rattle.key_text.specs.LineReading.{content, line_at}
use Rattle.key_text.proofs.LineFaults.{first_line_fault_met}
use Rattle.key_text.proofs.LineLaws.{line_again}
use Rattle.ssh_wire.proofs.Steps.{err_is, ok_or_err}
use Rattle.key_text.proofs.laws.one_first_line_fault.Goals as goal

pub returns-clause-one : goal.returns-clause-one
returns-clause-one c = λ text a b bytes p q. err_is a b (line_at text) (first_line_fault_met text a bytes p) (first_line_fault_met text b bytes q)

pub returns-clause-none : goal.returns-clause-none
returns-clause-none c = λ text word blob comment fault bytes is not. ok_or_err (content word blob comment) fault (line_at text) (line_again text word blob comment is) (first_line_fault_met text fault bytes not)
