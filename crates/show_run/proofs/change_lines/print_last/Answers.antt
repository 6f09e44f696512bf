-- The last line is printed, if there is one.
use Rattle.show_run.proofs.change_lines.print_last.Goals as goal

pub returns-then-json : goal.returns-then-json
returns-then-json g c = rw c.if-json.true (c.say_line.ensures _ c.write_changes-made.ensures)
