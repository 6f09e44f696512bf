-- The numbers and the printed names of the faults of a key line.
use Rattle.std.specs.Prelude.{ℕ, List, codes}
use Rattle.key_text.specs.declared.line_fault.LineFault.{LineFault}
use Rattle.key_text.specs.declared.line_fault.LineFault.TheVariants.{NoKey, Base64, WordDiffers}
use Rattle.key_text.specs.declared.line_fault.LineFault.TheVariants.{NoMemory}

abbrev pub fault_number : LineFault → ℕ
fault_number NoKey = 1
fault_number Base64 = 2
fault_number WordDiffers = 3
fault_number NoMemory = 4

abbrev pub fault_text : LineFault → List ℕ
fault_text NoKey = codes "line 1 NoKey"
fault_text Base64 = codes "line 2 Base64"
fault_text WordDiffers = codes "line 3 WordDiffers"
fault_text NoMemory = codes "line 4 NoMemory"
