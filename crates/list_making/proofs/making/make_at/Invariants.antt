-- The list that was under the name still is there, unless another program changed it.
use Rattle.list_making.specs.Target.{IsKept}
use Rattle.list_making.proofs.making.make_at.Given as goal

abbrev pub invariant-loop : goal.invariant-loop
invariant-loop g l = IsKept g.P.Target.holds g.P.Target.overtaken l.fn.place l.place
