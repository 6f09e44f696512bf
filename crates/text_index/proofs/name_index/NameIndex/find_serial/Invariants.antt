-- The numbers at the other fronts are left.
use Rattle.std.proofs.Common.{◌≡◌, ◌++◌, flat_map}
use Rattle.krl_types.specs.Naming.{SerialOf}
use Rattle.text_index.specs.Fronts.{fronts}
use Rattle.text_index.specs.NameIndex.{numbers, numbers_at}
use Rattle.text_index.proofs.name_index.NameIndex.find_serial.Given as goal

abbrev pub invariant-cutting : goal.invariant-cutting
invariant-cutting l =
    l.lines.items ++ flat_map (λ key. numbers_at l.self key (SerialOf l.authority l.serial)) (fronts l.bits l.front)
    ≡ numbers l.self (SerialOf l.authority l.serial)

abbrev pub decreases-cutting : goal.decreases-cutting
decreases-cutting l = l.bits
