-- The key of the line is added.
use Rattle.plain_list.proofs.reading.add_line.Goals as goal

pub returns-in_ok-add_key-in-Some-clause-adds : goal.returns-in_ok-add_key-in-Some-clause-adds
returns-in_ok-add_key-in-Some-clause-adds g c =
    rw (c.in_ok-key.ensures, c.in-Some.is, ← c.as_slice.ensures) c.in_ok-add_key-in-Some.ensures.means
