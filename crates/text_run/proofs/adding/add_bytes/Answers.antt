-- The entries of the bytes are added, or a line stops the run.
use Rattle.text_run.proofs.TextsAdded.{bytes_added, bytes_stop}
use Rattle.text_run.proofs.adding.add_bytes.Goals as goal

pub returns-in-Ok : goal.returns-in-Ok
returns-in-Ok g c = bytes_added _ _ _ _ _ _ c.in-Ok.ensures.reads c.in-Ok.ensures.held

pub returns-in-Err : goal.returns-in-Err
returns-in-Err g c =
    rw c.line_fault.ensures (bytes_stop _ c.read_text.new.standing c.args.name.now c.args.bytes.now c.in-Err.fault.line c.in-Err.fault.cause _ _ c.in-Err.ensures.reads)
