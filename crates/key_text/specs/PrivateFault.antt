-- The numbers and the printed names of the faults of a private container.
use Rattle.std.specs.Prelude.{ℕ, List, ◌++◌, codes}
use Rattle.ssh_wire.specs.Fault.{fault_text}
use Rattle.ssh_key.specs.KeyFault.{key_fault_text}
use Rattle.key_text.specs.declared.private_fault.PrivateFault.{PrivateFault}
use Rattle.key_text.specs.declared.private_fault.PrivateFault.TheVariants.{Armour, Base64, Magic}
use Rattle.key_text.specs.declared.private_fault.PrivateFault.TheVariants.{Encrypted, KeyCount}
use Rattle.key_text.specs.declared.private_fault.PrivateFault.TheVariants.{Check, Key}
use Rattle.key_text.specs.declared.private_fault.PrivateFault.TheVariants.{PublicDiffers, Padding}
use Rattle.key_text.specs.declared.private_fault.PrivateFault.TheVariants.{Trailing, Wire, NoMemory}

abbrev pub private_fault_number : PrivateFault → ℕ
private_fault_number Armour = 1
private_fault_number Base64 = 2
private_fault_number Magic = 3
private_fault_number Encrypted = 4
private_fault_number KeyCount = 5
private_fault_number Check = 6
private_fault_number (Key fault) = 7
private_fault_number PublicDiffers = 8
private_fault_number Padding = 9
private_fault_number Trailing = 10
private_fault_number (Wire fault) = 11
private_fault_number NoMemory = 12

abbrev pub private_fault_text : PrivateFault → List ℕ
private_fault_text Armour = codes "private 1 Armour"
private_fault_text Base64 = codes "private 2 Base64"
private_fault_text Magic = codes "private 3 Magic"
private_fault_text Encrypted = codes "private 4 Encrypted"
private_fault_text KeyCount = codes "private 5 KeyCount"
private_fault_text Check = codes "private 6 Check"
private_fault_text (Key fault) = codes "private 7 Key, " ++ key_fault_text fault
private_fault_text PublicDiffers = codes "private 8 PublicDiffers"
private_fault_text Padding = codes "private 9 Padding"
private_fault_text Trailing = codes "private 10 Trailing"
private_fault_text (Wire fault) = codes "private 11 Wire, " ++ fault_text fault
private_fault_text NoMemory = codes "private 12 NoMemory"
