-- All bytes came, too many, or the reader failed.
use Rattle.std.proofs.Common.{◌≤◌, arith, length, refl}
use Rattle.audit_run.specs.Reading.{failed}
use Rattle.audit_run.proofs.Contents.{comes_first, content_all, content_long}
use Rattle.audit_run.proofs.reading.read_input.Goals as goal

pub returns-in-All : goal.returns-in-All
returns-in-All g c =
    let came = rw c.in-All.is at c.in_ok-read_until.ensures.came in
    let fits : length c.read_until.new.text.items ≤ 16777216 = omega (arith, came.0) in
    content_all _ _ _ _ fits (comes_first _ _ _ _ c.requires.empty c.in_ok-read_until.ensures.bytes) came.1

pub returns-in-More : goal.returns-in-More
returns-in-More g c =
    let came = rw c.in-More.is at c.in_ok-read_until.ensures.came in
    let long : 16777217 ≤ length c.read_until.new.text.items = omega (arith, came.0) in
    content_long _ _ _ _ _ refl long (comes_first _ _ _ _ c.requires.empty c.in_ok-read_until.ensures.bytes)

pub returns-in-Failed : goal.returns-in-Failed
returns-in-Failed g c =
    let came = rw c.in-Failed.is at c.in_ok-read_until.ensures.came in
    failed _ refl (refl, (c.read_until.new.reader, came))
