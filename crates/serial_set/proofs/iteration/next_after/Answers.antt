use Rattle.std.proofs.Common.{arith, ◌≡◌, ◌<◌, length}
use Rattle.std.proofs.lemmas.Grind.{common_steps}
use Rattle.serial_set.proofs.RunIteration.{next_is, next_none}
use Rattle.serial_set.proofs.iteration.next_after.Goals as goal

pub returns : goal.returns
returns c =
    let some : 0 < length c.args.runs.now = grind (arith, common_steps) in
    next_is c.args.runs.now (record { lo = 0; hi = 0 }) c.checked_add.result some c.checked_add.ensures

pub returns-then-is_empty : goal.returns-then-is_empty
returns-then-is_empty c =
    let none : length c.args.runs.now ≡ 0 = grind (arith, common_steps) in
    next_none c.args.runs.now none
