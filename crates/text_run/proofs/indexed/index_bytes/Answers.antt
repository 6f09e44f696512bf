-- The lines of the bytes are indexed, or a line stops the run.
use Rattle.text_run.proofs.TextsIndexed.{bytes_indexed, bytes_refused}
use Rattle.text_run.proofs.indexed.index_bytes.Goals as goal

pub returns-in-Ok : goal.returns-in-Ok
returns-in-Ok c = bytes_indexed c.lines_have_what_is_read.ensures _ _ _ _ _ _ c.in-Ok.ensures

pub returns-in-Err : goal.returns-in-Err
returns-in-Err c =
    rw c.line_fault.ensures (bytes_refused _ c.add_text.new.standing c.args.name.now c.args.bytes.now c.in-Err.fault.line c.in-Err.fault.cause c.args.index.now c.args.index.now c.in-Err.ensures)
