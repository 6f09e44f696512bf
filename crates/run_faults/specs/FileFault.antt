-- The numbers and the printed names of the faults of a file.
use Rattle.std.specs.Prelude.{ℕ, List, codes}
use Rattle.run_faults.specs.declared.file_fault.FileFault.{FileFault}
use Rattle.run_faults.specs.declared.file_fault.FileFault.TheVariants.{Open, Read, TooLong}
use Rattle.run_faults.specs.declared.file_fault.FileFault.TheVariants.{NoMemory, NoKeys}
use Rattle.run_faults.specs.declared.file_fault.FileFault.TheVariants.{NoCertificate, Locked}

abbrev pub file_fault_number : FileFault → ℕ
file_fault_number Open = 1
file_fault_number Read = 2
file_fault_number TooLong = 3
file_fault_number NoMemory = 4
file_fault_number NoKeys = 5
file_fault_number NoCertificate = 6
file_fault_number Locked = 7

abbrev pub file_fault_text : FileFault → List ℕ
file_fault_text Open = codes "file 1 Open"
file_fault_text Read = codes "file 2 Read"
file_fault_text TooLong = codes "file 3 TooLong"
file_fault_text NoMemory = codes "file 4 NoMemory"
file_fault_text NoKeys = codes "file 5 NoKeys"
file_fault_text NoCertificate = codes "file 6 NoCertificate"
file_fault_text Locked = codes "file 7 Locked"
