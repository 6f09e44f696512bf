use Rattle.std.proofs.Common.{ℕ, List, Result, Ok, Err, IfOk, subst, arith}
use Rattle.ssh_wire.specs.Wire.{IsBytes}
use Rattle.ssh_wire.specs.Reading.{Answers}
use Rattle.key_text.specs.declared.line.Line.{Line}
use Rattle.key_text.specs.declared.line_fault.LineFault.{LineFault}
use Rattle.key_text.specs.KeyLine.{IsKeyLine}
use Rattle.key_text.specs.LineReading.{KeyLine, ReportsFault, content_of, line_at}
use Rattle.key_text.proofs.LineFaults.{is_reported}
use Rattle.key_text.proofs.LineLaws.{line_again, line_found}
use Rattle.key_text.proofs.line.read_line.Goals as goal

found : (text : List ℕ) (result : Result Line LineFault) → IsBytes text → Answers ReportsFault content_of result (line_at text) → IfOk result (λ line. IsKeyLine text line.word.now line.blob line.comment.now)
found text (Ok line) fits exact = line_found text (content_of line) fits exact
found text (Err fault) fits exact = tt

pub returns-clause-found : goal.returns-clause-found
returns-clause-found c = found c.args.text.now c.read_content.result (λ i. let byte = c.type_inv.text i in omega arith) c.read_content.ensures.exact

pub returns-clause-only : goal.returns-clause-only
returns-clause-only c = λ word blob comment is. subst (λ (read : Result KeyLine LineFault). Answers ReportsFault content_of c.read_content.result read) (line_again c.args.text.now word blob comment is) c.read_content.ensures.exact

pub returns-clause-fault : goal.returns-clause-fault
returns-clause-fault c = is_reported c.args.text.now c.read_content.result (λ i. let byte = c.type_inv.text i in omega arith) c.read_content.ensures.exact
