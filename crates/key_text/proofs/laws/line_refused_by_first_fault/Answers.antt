use Rattle.key_text.proofs.LineFaults.{first_line_fault_met, line_refused}
use Rattle.key_text.proofs.laws.line_refused_by_first_fault.Goals as goal

pub returns : goal.returns
returns c = λ text fault bytes. (line_refused text fault bytes, first_line_fault_met text fault bytes)
