-- The numbers and the printed names of the faults of a fingerprint.
use Rattle.std.specs.Prelude.{ℕ, List, codes}
use Rattle.key_text.specs.declared.fingerprint_fault.FingerprintFault.{FingerprintFault}
use Rattle.key_text.specs.declared.fingerprint_fault.FingerprintFault.TheVariants.{Prefix, Base64}
use Rattle.key_text.specs.declared.fingerprint_fault.FingerprintFault.TheVariants.{Length, NoMemory}

abbrev pub fingerprint_fault_number : FingerprintFault → ℕ
fingerprint_fault_number Prefix = 1
fingerprint_fault_number Base64 = 2
fingerprint_fault_number Length = 3
fingerprint_fault_number NoMemory = 4

abbrev pub fingerprint_fault_text : FingerprintFault → List ℕ
fingerprint_fault_text Prefix = codes "fingerprint 1 Prefix"
fingerprint_fault_text Base64 = codes "fingerprint 2 Base64"
fingerprint_fault_text Length = codes "fingerprint 3 Length"
fingerprint_fault_text NoMemory = codes "fingerprint 4 NoMemory"
