-- The list is read from the bytes of its file, or is refused by what was read.
use Rattle.std.proofs.Common.{Err, Ok, refl}
use Rattle.any_list.proofs.given.read_given.Goals as goal

pub returns-in-Err-clause-fault : goal.returns-in-Err-clause-fault
returns-in-Err-clause-fault g c = record {
  told = _;
  after_is = rw c.in-Err.is at c.read.ensures;
  are = record { content = Err c.in-Err.cause; told_is = refl; refused_as = c.whole.ensures };
}

pub returns-in-Ok-read_list-clause-found : goal.returns-in-Ok-read_list-clause-found
returns-in-Ok-read_list-clause-found g c = record {
  told = _;
  after_is = rw c.in-Ok.is at c.read.ensures;
  are = record { fits = rw c.as_slice.ensures at c.read_list.ensures.fits; told_is = refl; is = rw c.as_slice.ensures at c.in-Ok-read_list.ensures.found };
}

pub returns-clause-fault : goal.returns-clause-fault
returns-clause-fault g c = record {
  told = _;
  after_is = rw c.in-Ok.is at c.read.ensures;
  are = record { content = Ok c.in-Ok.bytes; told_is = refl; refused_as = rw c.as_slice.ensures at c.in-Err-read_list.ensures.fault };
}
