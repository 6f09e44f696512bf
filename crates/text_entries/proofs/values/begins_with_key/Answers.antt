-- The part from the type name on is the whole line, or nothing is before the name.
use Rattle.std.proofs.Common.{sym}
use Rattle.text_entries.proofs.KeyLines.{no_part, whole_is}
use Rattle.text_entries.proofs.values.begins_with_key.Goals as goal

pub returns-in-Some : goal.returns-in-Some
returns-in-Some c = whole_is c.args.text.now c.in-Some.part.now (sym c.in-Some.ensures)

pub returns-in-None : goal.returns-in-None
returns-in-None c = no_part c.args.text.now (sym c.in-None.ensures)
