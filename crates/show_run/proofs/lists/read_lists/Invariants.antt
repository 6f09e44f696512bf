-- The lists so far were read.
use Rattle.show_run.proofs.Common.{take}
use Rattle.show_run.specs.Lists.{AreGiven}
use Rattle.any_list.specs.Told.{Tells}
use Rattle.show_run.proofs.lists.read_lists.Given as goal

abbrev pub invariant-loop-name : goal.invariant-loop-name
invariant-loop-name g l =
    Tells (g.L.Lists.told l.initial.lists) (g.L.Lists.told l.lists) (λ told. AreGiven told (take l.name-index l.names) l.all.items)
