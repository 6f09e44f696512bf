-- A list is read from its first field on.
use Rattle.std.proofs.Common.{[], refl}
use Rattle.krl_core.proofs.Lists.{list_of_all}
use Rattle.krl_core.proofs.WholeLists.{of_all}
use Rattle.krl_format.proofs.SpelledLists.{only_ran_out}
use Rattle.krl_core.proofs.read.read_krl.Goals as goal

pub returns-in-Ok-clause-found : goal.returns-in-Ok-clause-found
returns-in-Ok-clause-found g c = λ text e.
    let list = (rw c.in-Ok.is at c.read_on-read.ensures.found) text [] (c.over.ensures.start text e) in
    rw c.into_held.ensures (list_of_all text c.in-Ok.header c.in-Ok.gathered.contents (of_all _ c.in-Ok.header list))

pub returns-in-Ok-clause-no_fault : goal.returns-in-Ok-clause-no_fault
returns-in-Ok-clause-no_fault g c = λ text e. (rw c.in-Ok.is at c.read_on-read.ensures.no_fault) text [] (c.over.ensures.start text e)

pub returns-in-Ok-clause-held : goal.returns-in-Ok-clause-held
returns-in-Ok-clause-held g c = rw c.into_held.ensures ((rw c.in-Ok.is at c.read_on-read.ensures.within).bounds refl).0

pub returns-in-Ok-clause-stored : goal.returns-in-Ok-clause-stored
returns-in-Ok-clause-stored g c = rw c.into_held.ensures ((rw c.in-Ok.is at c.read_on-read.ensures.within).bounds refl).1

pub returns-in-Err-clause-fault : goal.returns-in-Err-clause-fault
returns-in-Err-clause-fault g c = λ text e. (rw c.in-Err.is at c.read_on-read.ensures.fault) text [] (c.over.ensures.start text e)

pub returns-in-Err-clause-only : goal.returns-in-Err-clause-only
returns-in-Err-clause-only g c = λ text header sections e.
    only_ran_out c.in-Err.fault _ _ text header sections ((rw c.in-Err.is at c.read_on-read.ensures.fault) text [] (c.over.ensures.start text e))
