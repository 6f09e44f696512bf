-- The authority has the name, or the entry is added.
use Rattle.text_entries.proofs.Said.{name_line, under_line}
use Rattle.text_entries.proofs.line.take_mark.Goals as goal

pub returns-in-Some : goal.returns-in-Some
returns-in-Some g c = rw c.in-Some.ensures (name_line _ _ _ _ _ _ c.declare.ensures)

pub returns-in-None : goal.returns-in-None
returns-in-None g c = rw c.in-None.ensures (under_line _ _ _ _ _ c.add_marked.ensures)
