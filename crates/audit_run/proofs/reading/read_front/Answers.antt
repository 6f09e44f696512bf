-- The first bytes came, or all of them.
use Rattle.std.proofs.Common.{◌≤◌, arith, length}
use Rattle.audit_run.proofs.Contents.{begun_all, begun_more, comes_first}
use Rattle.audit_run.proofs.reading.read_front.Goals as goal

pub returns-in-All-clause-begun : goal.returns-in-All-clause-begun
returns-in-All-clause-begun g c = λ is.
    let came = rw c.in-All.is at c.in_ok-read_until.ensures.came in
    begun_all _ _ _ came.1 (comes_first _ _ _ _ c.requires.empty c.in_ok-read_until.ensures.bytes)

pub returns-in-More-clause-begun : goal.returns-in-More-clause-begun
returns-in-More-clause-begun g c = λ is.
    let came = rw c.in-More.is at c.in_ok-read_until.ensures.came in
    let long : 64 ≤ length c.read_until.new.text.items = omega (arith, came.0) in
    begun_more _ _ _ long (comes_first _ _ _ _ c.requires.empty c.in_ok-read_until.ensures.bytes)
