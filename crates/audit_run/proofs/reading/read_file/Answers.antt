-- All bytes came, too many, or the reader failed.
use Rattle.std.proofs.Common.{◌≤◌, arith, length, refl}
use Rattle.audit_run.specs.Reading.{failed}
use Rattle.audit_run.proofs.Contents.{content_all}
use Rattle.audit_run.proofs.reading.read_file.Goals as goal

pub returns-in-All : goal.returns-in-All
returns-in-All g c = λ all was.
    let came = rw c.in-All.is at c.in_ok-read_until.ensures.came in
    let fits : length c.read_until.new.text.items ≤ 16777216 = omega (arith, came.0) in
    content_all _ all _ _ fits (c.in_ok-read_until.ensures.bytes.completed all was) came.1

pub returns-in-Failed : goal.returns-in-Failed
returns-in-Failed g c = λ all was. failed _ refl c.why_unread.ensures
