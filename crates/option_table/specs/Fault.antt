-- The faults of a command line: their numbers, their exit statuses, and when they are reported.
use Rattle.std.specs.Prelude.{◌≡◌, ◌≢◌, ℕ, ⊤, Bool, true, false, List}
use Rattle.clap.specs.Faults.{fault_of}
use Rattle.clap.specs.Kinds.{IsAmong}
use Rattle.clap.specs.Simple.{App}
use Rattle.clap.specs.Values.{kind_of}
use Rattle.clap.specs.declared.error.Error.{Error}
use Rattle.clap.specs.declared.error.kind.ErrorKind.{ErrorKind}
use Rattle.clap.specs.declared.error.kind.ErrorKind.TheVariants.{DisplayHelp, DisplayVersion}
use Rattle.clap.specs.declared.error.kind.ErrorKind.TheVariants.{OutOfMemory}
use Rattle.option_table.specs.declared.fault.CommandFault.{CommandFault}
use Rattle.option_table.specs.declared.fault.CommandFault.TheVariants.{Usage, Words, NoMemory}

abbrev pub command_fault_number : CommandFault → ℕ
command_fault_number Usage = 1
command_fault_number (Words help text) = 2
command_fault_number NoMemory = 3

abbrev pub words_status : Bool → ℕ
words_status true = 0
words_status false = 2

abbrev pub command_fault_status : CommandFault → ℕ
command_fault_status Usage = 2
command_fault_status (Words help text) = words_status help
command_fault_status NoMemory = 255

abbrev pub is_help : ErrorKind → Bool
is_help DisplayHelp = true
is_help DisplayVersion = true
is_help kind = false

-- why words cannot be parsed
abbrev pub ReportsError : Error → CommandFault → Type 0
ReportsError error (Words help text) =
    (kind_of error ≢ OutOfMemory) × (help ≡ is_help (kind_of error))
ReportsError error Usage = ⊥
ReportsError error NoMemory = ⊤

-- The words cannot be parsed for this program, because of a fault of this kind.
abbrev pub IsRefused : App → List (List ℕ) → Bool → Type 0
IsRefused program words help =
    (kind : ErrorKind) × IsAmong kind (fault_of program words) × (help ≡ is_help kind)
