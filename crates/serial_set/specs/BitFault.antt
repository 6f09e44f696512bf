-- The numbers of the faults of a bitmap.
use Rattle.std.specs.Prelude.{ℕ}
use Rattle.serial_set.specs.declared.bit_fault.BitFault.{BitFault}
use Rattle.serial_set.specs.declared.bit_fault.BitFault.TheVariants.{Negative, Wraps}

abbrev pub fault_number : BitFault → ℕ
fault_number Negative = 1
fault_number Wraps = 2
