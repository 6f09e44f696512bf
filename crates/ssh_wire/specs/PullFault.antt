-- The numbers and the printed names of the faults of pulling from a reader.
use Rattle.std.specs.Prelude.{ℕ, List, codes}
use Rattle.ssh_wire.specs.declared.pull_fault.PullFault.{PullFault}
use Rattle.ssh_wire.specs.declared.pull_fault.PullFault.TheVariants.{EndsEarly, TooLong, Read}
use Rattle.ssh_wire.specs.declared.pull_fault.PullFault.TheVariants.{NoMemory}

abbrev pub pull_fault_number : PullFault → ℕ
pull_fault_number EndsEarly = 1
pull_fault_number TooLong = 2
pull_fault_number Read = 3
pull_fault_number NoMemory = 4

abbrev pub pull_fault_text : PullFault → List ℕ
pull_fault_text EndsEarly = codes "pull 1 EndsEarly"
pull_fault_text TooLong = codes "pull 2 TooLong"
pull_fault_text Read = codes "pull 3 Read"
pull_fault_text NoMemory = codes "pull 4 NoMemory"
