-- Why a run stopped, and the line that reports it.
use Rattle.std.specs.Prelude.{ℕ, Bool, true, false, List, [], ◌++◌, Option, Some, None, codes}
use Rattle.std.specs.Prelude.{decimal}
use Rattle.key_text.specs.LineFault.{fault_number as line_fault_number}
use Rattle.key_text.specs.PrivateFault.{private_fault_number, private_fault_text}
use Rattle.krl_types.specs.declared.krl_fault.KrlFault.{KrlFault}
use Rattle.krl_types.specs.declared.krl_fault.KrlFault.TheVariants as faults
use Rattle.krl_types.specs.KrlFault.{fault_number as krl_fault_number, fault_text as krl_fault_text}
use Rattle.ssh_cert.specs.SubjectFault.{subject_fault_number}
use Rattle.keyed_lines.specs.KeyCause.{key_cause_text}
use Rattle.keyed_lines.specs.declared.key_cause.KeyCause.TheVariants as keys
use Rattle.run_faults.specs.declared.cause.Cause.{Cause}
use Rattle.run_faults.specs.declared.cause.Cause.TheVariants.{File, Krl, Key, Private}
use Rattle.run_faults.specs.declared.cause.Cause.TheVariants.{Spec, NoMemory}
use Rattle.run_faults.specs.declared.cause.Cause.TheVariants.{VersionFull, TextTooLong, Output}
use Rattle.ssh_cert.specs.Escape.{escaped}
use Rattle.run_faults.specs.FileFault.{file_fault_number, file_fault_text}
use Rattle.run_faults.specs.SpecCause.{spec_cause_number, spec_cause_text}

-- the name of the current file or list, the number of its line if there is one, and the cause
pub record RunFault : Type 0 where
  pub name : List ℕ
  pub line : Option ℕ
  pub cause : Cause

-- the number of the fault in its family
abbrev pub cause_number : Cause → ℕ
cause_number (File fault) = file_fault_number fault
cause_number (Krl fault) = krl_fault_number fault
cause_number (Key (keys.Line fault)) = line_fault_number fault
cause_number (Key (keys.Subject fault)) = subject_fault_number fault
cause_number (Private fault) = private_fault_number fault
cause_number (Spec cause) = spec_cause_number cause
cause_number NoMemory = 1
cause_number VersionFull = 2
cause_number TextTooLong = 3
cause_number (Output count) = 1

-- the family, the number and the name of the fault, followed by the same of the fault that it
-- carries
unfoldable pub cause_text : Cause → List ℕ
cause_text (File fault) = file_fault_text fault
cause_text (Krl fault) = krl_fault_text fault
cause_text (Key cause) = key_cause_text cause
cause_text (Private fault) = private_fault_text fault
cause_text (Spec cause) = spec_cause_text cause
cause_text NoMemory = codes "run 1 NoMemory"
cause_text VersionFull = codes "run 2 VersionFull"
cause_text TextTooLong = codes "run 3 TextTooLong"
cause_text (Output count) = codes "output 1 Write after " ++ (decimal count ++ codes " bytes")

abbrev pub line_part : Option ℕ → List ℕ
line_part None = []
line_part (Some number) = codes "line " ++ (decimal number ++ codes ": ")

-- the line of a program for standard error, without its line feed
unfoldable pub fault_text : List ℕ → RunFault → List ℕ
fault_text program stop =
    program ++ (codes ": "
    ++ (escaped stop.name ++ (codes ": " ++ (line_part stop.line ++ cause_text stop.cause))))

-- A fault of a whole file, or of the list.
abbrev pub run_fault_of : List ℕ → Cause → RunFault
run_fault_of name cause = record { name = name; line = None; cause = cause }

-- The output failed after this many bytes. It has no line.
abbrev pub output_run_fault : ℕ → RunFault
output_run_fault count = run_fault_of (codes "output") (Output count)

-- A failed allocation is a fault of the run itself, not of the list.
abbrev pub krl_cause : KrlFault → Cause
krl_cause faults.NoMemory = NoMemory
krl_cause fault = Krl fault

-- the reason that a run ended early
pub data EndedBy : Type 0 where
  -- the output, after this many bytes
  ByOutput : ℕ → EndedBy
  -- a failed allocation
  ByMemory : EndedBy
  -- the input of the run: a file, a list, a line or a container, or its key
  ByInput : EndedBy

abbrev pub ended_by : Cause → EndedBy
ended_by (File fault) = ByInput
ended_by (Krl fault) = ByInput
ended_by (Key cause) = ByInput
ended_by (Private fault) = ByInput
ended_by (Spec cause) = ByInput
ended_by NoMemory = ByMemory
ended_by VersionFull = ByInput
ended_by TextTooLong = ByInput
ended_by (Output count) = ByOutput count

abbrev pub is_by_output : EndedBy → Bool
is_by_output (ByOutput count) = true
is_by_output ByMemory = false
is_by_output ByInput = false

-- whether the output ended a run
abbrev pub is_lost : Option RunFault → Bool
is_lost None = false
is_lost (Some stop) = is_by_output (ended_by stop.cause)
