-- The part of the list under a name that a new list takes over (krl(1), KRL MAKE).
use Rattle.std.specs.Prelude.{◌≡◌, ℕ, Bool, true, false, ◌⊎◌, List, [], Option, Some, None, is_some}
use Rattle.std.specs.Prelude.{Result, Ok, Err}
use Rattle.std.specs.Io.KnownBytes.{IsAtEnd}
use Rattle.krl_core.specs.Reading.{IsList, IsResultOf}
use Rattle.krl_entries.specs.Revocations.{Revocations, nothing}
use Rattle.krl_format.specs.Front.{IsFirstKrlFault}
use Rattle.krl_format.specs.declared.header.Header.{Header}
use Rattle.krl_types.specs.declared.krl_fault.KrlFault.{KrlFault}
use Rattle.krl_types.specs.declared.krl_fault.KrlFault.TheVariants.{Read}
use Rattle.list_making.specs.Target.{Old}
use Rattle.run_faults.specs.RunFault.{krl_cause}
use Rattle.run_faults.specs.declared.cause.Cause.{Cause}
use Rattle.run_faults.specs.declared.cause.Cause.TheVariants.{File}
use Rattle.run_faults.specs.declared.file_fault.FileFault.TheVariants.{Open}
use Rattle.text_run.specs.declared.base.Base.{Base}
use Rattle.text_run.specs.declared.inputs.Over.{Over}
use Rattle.text_run.specs.declared.inputs.Over.TheVariants.{Nothing, Version, Contents}

-- the old list is read
abbrev pub is_read : Over → Bool
is_read Nothing = false
is_read Version = true
is_read Contents = true

-- all that the old list names is taken over
abbrev pub takes_contents : Over → Bool
takes_contents Nothing = false
takes_contents Version = false
takes_contents Contents = true

-- the base of a list that follows no other
abbrev pub new_base : Base
new_base = record { version = None; comment = []; revocations = nothing; before = nothing }

-- what the new list has of one with this header and these contents
abbrev pub base_of : Over → Header → Revocations → Base
base_of Nothing header contents =
    record new_base { version = Some header.version; before = contents }
base_of Version header contents =
    record new_base { version = Some header.version; before = contents }
base_of Contents header contents = record {
  version = Some header.version;
  comment = header.comment;
  revocations = contents;
  before = nothing;
}

-- what reading the old list gives
pub record Krl : Type 0 where
  pub header : Header
  pub contents : Revocations

pub record IsKrl (text : List ℕ) (krl : Krl) : Type 0 where
  pub list : IsList text krl.header krl.contents
  pub no_fault : IsFirstKrlFault text None

abbrev pub base_in : Over → Result Krl KrlFault → Result Base KrlFault
base_in over (Ok krl) = Ok (base_of over krl.header krl.contents)
base_in over (Err fault) = Err fault

-- The old list was read, of which its reader had these bytes left, if it knows them. It is the
-- list that they spell, or has their first fault, or the reader failed.
pub record IsTaken (over : Over) (before : Option (List ℕ)) (outcome : Result Base KrlFault)
    : Type 0 where
  pub read : Result Krl KrlFault
  pub failed : Bool
  pub left : Option (List ℕ)
  pub is_read : IsResultOf IsKrl before read failed left
  pub outcome_is : outcome ≡ base_in over read

-- Where the version is given, a list without a byte counts as none. Its reader may fail before its
-- first byte.
pub data IsEmpty (given : Option ℕ) (before : Option (List ℕ)) (outcome : Result Base KrlFault)
    : Type 0 where
  empty : is_some given ≡ true → IsAtEnd before → outcome ≡ Ok new_base
      → IsEmpty given before outcome
  unknown : is_some given ≡ true → outcome ≡ Err Read → IsEmpty given before outcome

-- The part that the new list takes over of the old one.
abbrev pub IsReadOver : Over → (given : Option ℕ) → Old → Result Base KrlFault → Type 0
IsReadOver Nothing given old outcome = outcome ≡ Ok new_base
IsReadOver Version given None outcome = outcome ≡ Ok new_base
IsReadOver Version given (Some before) outcome =
    IsEmpty given before outcome ⊎ IsTaken Version before outcome
IsReadOver Contents given None outcome = ⊥
IsReadOver Contents given (Some before) outcome = IsTaken Contents before outcome

-- Why a list is not read: it has this fault.
abbrev pub IsUntaken : Over → (before : Option (List ℕ)) → Cause → Type 0
IsUntaken over before cause =
    (fault : KrlFault) × IsTaken over before (Err fault) × (cause ≡ krl_cause fault)

-- Why the old list is not read: there is none although its contents are taken over, or it has this
-- fault.
pub data IsUnread (over : Over) (given : Option ℕ) (old : Old) (cause : Cause) : Type 0 where
  lacking : takes_contents over ≡ true → old ≡ None → cause ≡ File Open
      → IsUnread over given old cause
  faulty : (fault : KrlFault) → IsReadOver over given old (Err fault) → cause ≡ krl_cause fault
      → IsUnread over given old cause
