-- The line, its blob and its kind are read, or the first fault is reported.
use Rattle.key_text.specs.LineReading.{content_of}
use Rattle.text_entries.proofs.Said.{key_read, line_stops, subject_stops}
use Rattle.text_entries.proofs.authority.read_line.Goals as goal

pub returns-in-Err : goal.returns-in-Err
returns-in-Err c = line_stops c.args.text.now c.in-Err.cause c.in-Err.ensures.read

pub returns-in-Ok-ask : goal.returns-in-Ok-ask
returns-in-Ok-ask c =
    let asked = rw c.as_slice.ensures at c.in-Ok-ask.ensures.asked in
    rw (key_read c.args.text.now (content_of c.in-Ok.line) c.in-Ok-ask.asked c.in-Ok.ensures.read asked) c.plain_of.ensures

pub returns : goal.returns
returns c =
    let refused = rw c.as_slice.ensures at c.in-Err-ask.ensures.asked in
    subject_stops c.args.text.now (content_of c.in-Ok.line) c.in-Err-ask.cause c.in-Ok.ensures.read refused
