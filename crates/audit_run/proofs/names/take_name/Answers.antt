-- The name is kept, or counted.
use Rattle.std.proofs.Common.{refl}
use Rattle.audit_run.proofs.Listing.{found_left, found_taken}
use Rattle.audit_run.proofs.names.take_name.Goals as goal

pub returns-then-wanted : goal.returns-then-wanted
returns-then-wanted g c = λ names was.
    found_taken _ _ _ names c.args.name _ _ was (rw (c.if-wanted.true, c.as_slice.ensures.value) at c.in_ok-wanted.ensures)
    c.in_ok-push.ensures.items refl

pub returns : goal.returns
returns g c = λ names was.
    found_left _ _ _ names c.args.name.items _ _ was (rw (c.if-wanted.false, c.as_slice.ensures.value) at c.in_ok-wanted.ensures) refl
    (rw c.as_slice-2.ensures.value at c.with_passed-listing.ensures)
