-- A list that was read from its bytes, and why a list is refused.
use Rattle.std.specs.Prelude.{◌≡◌, ℕ, Bool, true, false, List, [], ◌∷◌, Option, Some, option_map}
use Rattle.std.specs.Prelude.{Result, Ok, Err}
use Rattle.ssh_wire.specs.Wire.{IsBytes}
use Rattle.krl_types.specs.Entry.{Entry}
use Rattle.krl_types.specs.declared.krl_fault.KrlFault.{KrlFault}
use Rattle.krl_types.specs.declared.krl_fault.KrlFault.TheVariants as krl_faults
use Rattle.krl_format.specs.Front.{IsFirstKrlFault}
use Rattle.krl_format.specs.Memory.{MayLackMemory}
use Rattle.krl_format.specs.declared.header.Header.{Header}
use Rattle.krl_entries.specs.Revocations.{Means}
use Rattle.plain_list.specs.Any.{Names, NamesLines, NamesWhole, begins_list}
use Rattle.plain_list.specs.List.{HasFault}
use Rattle.plain_list.specs.declared.fault.PlainFault.{PlainFault}
use Rattle.plain_list.specs.declared.fault.PlainFault.TheVariants as plain_faults
use Rattle.run_faults.specs.Keys.{run_fault_at}
use Rattle.run_faults.specs.RunFault.{RunFault, krl_cause, run_fault_of}
use Rattle.run_faults.specs.declared.cause.Cause.{Cause}
use Rattle.run_faults.specs.declared.cause.Cause.TheVariants as causes
use Rattle.krl_format.specs.declared.header.Stated.{Stated}
use Rattle.any_list.specs.Told.{ListRead, Reading}
use Rattle.any_list.specs.declared.given.Given.{Given}
use Rattle.any_list.specs.declared.list.List.{List as ListOf}

-- ---- a list that was read

-- the version and the date of a header
abbrev pub stated_in : Header → Stated
stated_in header = record { version = header.version; generated = header.date }

-- the version and the date of a list; a plain list has neither
abbrev pub stated_by : Option Header → Option Stated
stated_by header = option_map stated_in header

-- The list has this name, its header is that of its bytes, and what is held means exactly their
-- entries.
pub record IsReadAs (Named : Option Header → List Entry → Type 0) (name : List ℕ) (list : ListOf)
    : Type 0 where
  pub name_is : list.name.now ≡ name
  pub entries : List Entry
  pub named : Named list.header entries
  pub means : Means list.revocations entries

abbrev pub IsReadWhole : (name bytes : List ℕ) → ListOf → Type 0
IsReadWhole name bytes list = IsReadAs (NamesWhole bytes) name list

abbrev pub IsReadLines : (name bytes : List ℕ) → ListOf → Type 0
IsReadLines name bytes list = IsReadAs (NamesLines bytes) name list

-- The list of this name is read from these bytes.
abbrev pub IsReadList : (name bytes : List ℕ) → ListOf → Type 0
IsReadList name bytes list = IsReadAs (Names bytes) name list

-- ---- a list that is refused

-- An allocation failed where memory may be needed, or it is the first fault of a key revocation
-- list.
pub data IsWholeFault (name bytes : List ℕ) (stop : RunFault) : Type 0 where
  whole_ran_out : MayLackMemory bytes → stop ≡ run_fault_of name causes.NoMemory
      → IsWholeFault name bytes stop
  whole_fault : (fault : KrlFault) → IsFirstKrlFault bytes (Some fault)
      → stop ≡ run_fault_of name (krl_cause fault) → IsWholeFault name bytes stop

abbrev pub plain_run_fault : List ℕ → PlainFault → RunFault
plain_run_fault name (plain_faults.Line number cause) =
    run_fault_at name number (causes.Key cause)
plain_run_fault name plain_faults.TooLong = run_fault_of name (causes.Krl krl_faults.TooLong)
plain_run_fault name plain_faults.NoMemory = run_fault_of name causes.NoMemory

-- An allocation failed, or it is the fault of a plain list.
pub record IsLinesFault (name bytes : List ℕ) (stop : RunFault) : Type 0 where
  pub fault : PlainFault
  pub has : HasFault bytes fault
  pub stop_is : stop ≡ plain_run_fault name fault

abbrev pub IsFaultIf : Bool → (name bytes : List ℕ) → RunFault → Type 0
IsFaultIf true name bytes stop = IsWholeFault name bytes stop
IsFaultIf false name bytes stop = IsLinesFault name bytes stop

-- The list of this name, with these bytes, is refused for this.
abbrev pub IsListFault : (name bytes : List ℕ) → RunFault → Type 0
IsListFault name bytes stop = IsFaultIf (begins_list bytes) name bytes stop

-- The list of this name, with these bytes, was read or is refused.
abbrev pub IsFileRead : (name bytes : List ℕ) → Result ListOf RunFault → Type 0
IsFileRead name bytes (Ok list) = IsReadList name bytes list
IsFileRead name bytes (Err stop) = IsListFault name bytes stop

-- ---- a list by the name of its file

-- The file of this name was read once, has these bytes, and the list is read from them.
pub record IsGiven (told : List Reading) (name bytes : List ℕ) (list : ListOf) : Type 0 where
  pub fits : IsBytes bytes
  pub told_is : told ≡ ListRead name (Ok bytes) ∷ []
  pub is : IsReadList name bytes list

-- The list is read from the bytes beside it.
abbrev pub IsRead : Given → Type 0
IsRead given = IsReadList given.list.name.now given.bytes given.list

-- The bytes were not read for this cause, or are refused as a list for this fault.
abbrev pub IsRefusedAs : List ℕ → Result (List ℕ) Cause → RunFault → Type 0
IsRefusedAs name (Ok bytes) stop = IsListFault name bytes stop
IsRefusedAs name (Err cause) stop = stop ≡ run_fault_of name cause

-- The file of this name was read once, and is refused for this.
pub record IsRefused (told : List Reading) (name : List ℕ) (stop : RunFault) : Type 0 where
  pub content : Result (List ℕ) Cause
  pub told_is : told ≡ ListRead name content ∷ []
  pub refused_as : IsRefusedAs name content stop
