-- The entry was added, or its fault is reported.
use Rattle.text_entries.proofs.Said.{names_line, names_stops}
use Rattle.text_entries.proofs.line.end_authority.Goals as goal

pub returns-in-Ok : goal.returns-in-Ok
returns-in-Ok c = λ read old new takes. names_line read _ old new (rw c.in-Ok.is at takes)

pub returns-in-Err : goal.returns-in-Err
returns-in-Err c = λ read old new takes. names_stops read _ _ old new (rw c.in-Err.is at takes)
