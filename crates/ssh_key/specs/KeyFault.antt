-- The numbers and the printed names of the faults of a key.
use Rattle.std.specs.Prelude.{ℕ, List, ◌++◌, codes}
use Rattle.ssh_wire.specs.Fault.{fault_text}
use Rattle.ssh_key.specs.declared.fault.KeyFault.{KeyFault}
use Rattle.ssh_key.specs.declared.fault.KeyFault.TheVariants.{Wire, UnknownType, Curve, Point}
use Rattle.ssh_key.specs.declared.fault.KeyFault.TheVariants.{Length, Number, Trailing, TooLong}

abbrev pub key_fault_number : KeyFault → ℕ
key_fault_number (Wire fault) = 1
key_fault_number UnknownType = 2
key_fault_number Curve = 3
key_fault_number Point = 4
key_fault_number Length = 5
key_fault_number Number = 6
key_fault_number Trailing = 7
key_fault_number TooLong = 8

abbrev pub key_fault_text : KeyFault → List ℕ
key_fault_text (Wire fault) = codes "key 1 Wire, " ++ fault_text fault
key_fault_text UnknownType = codes "key 2 UnknownType"
key_fault_text Curve = codes "key 3 Curve"
key_fault_text Point = codes "key 4 Point"
key_fault_text Length = codes "key 5 Length"
key_fault_text Number = codes "key 6 Number"
key_fault_text Trailing = codes "key 7 Trailing"
key_fault_text TooLong = codes "key 8 TooLong"
