-- The numbers and the printed names of the faults of a specification file's line.
use Rattle.std.specs.Prelude.{ℕ, List, ◌++◌, codes}
use Rattle.key_text.specs.FingerprintFault.{fingerprint_fault_text}
use Rattle.keyed_lines.specs.KeyCause.{key_cause_text}
use Rattle.run_faults.specs.declared.spec_cause.SpecCause.{SpecCause}
use Rattle.run_faults.specs.declared.spec_cause.SpecCause.TheVariants.{Number, Zero, Reversed}
use Rattle.run_faults.specs.declared.spec_cause.SpecCause.TheVariants.{NoAuthority, EmptyId, Key}
use Rattle.run_faults.specs.declared.spec_cause.SpecCause.TheVariants.{Fingerprint, NoMemory}

abbrev pub spec_cause_number : SpecCause → ℕ
spec_cause_number Number = 1
spec_cause_number Zero = 2
spec_cause_number Reversed = 3
spec_cause_number NoAuthority = 4
spec_cause_number EmptyId = 5
spec_cause_number (Key cause) = 6
spec_cause_number (Fingerprint fault) = 7
spec_cause_number NoMemory = 8

abbrev pub spec_cause_text : SpecCause → List ℕ
spec_cause_text Number = codes "spec 1 Number"
spec_cause_text Zero = codes "spec 2 Zero"
spec_cause_text Reversed = codes "spec 3 Reversed"
spec_cause_text NoAuthority = codes "spec 4 NoAuthority"
spec_cause_text EmptyId = codes "spec 5 EmptyId"
spec_cause_text (Key cause) = codes "spec 6 Key, " ++ key_cause_text cause
spec_cause_text (Fingerprint fault) = codes "spec 7 Fingerprint, " ++ fingerprint_fault_text fault
spec_cause_text NoMemory = codes "spec 8 NoMemory"
