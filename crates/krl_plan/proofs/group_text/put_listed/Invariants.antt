use Rattle.krl_plan.proofs.Common.{◌++◌, ◌≡◌, flat_map, number, serials_of, take}
use Rattle.krl_plan.proofs.group_text.put_listed.Given as goal

abbrev pub invariant-loop-run : goal.invariant-loop-run
invariant-loop-run l = l.out.items ≡ l.initial.out.items ++ flat_map (number 8) (serials_of (take l.run-index l.runs))
