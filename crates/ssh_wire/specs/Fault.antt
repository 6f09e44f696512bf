-- The numbers and the printed names of the faults of the wire.
use Rattle.std.specs.Prelude.{ℕ, List, codes}
use Rattle.ssh_wire.specs.declared.fault.WireFault.{WireFault}
use Rattle.ssh_wire.specs.declared.fault.WireFault.TheVariants.{Short, Negative, NotShortest}

abbrev pub fault_number : WireFault → ℕ
fault_number Short = 1
fault_number Negative = 2
fault_number NotShortest = 3

abbrev pub fault_text : WireFault → List ℕ
fault_text Short = codes "wire 1 Short"
fault_text Negative = codes "wire 2 Negative"
fault_text NotShortest = codes "wire 3 NotShortest"
