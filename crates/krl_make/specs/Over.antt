-- Making a list over what is under its name.
use Rattle.std.specs.Prelude.{◌≡◌, ℕ, Bool, true, false, ◌⊎◌, List, [], Option, Some, None}
use Rattle.std.specs.Prelude.{Result, Ok, Err}
use Rattle.krl_core.specs.Reading.{IsResultOf}
use Rattle.krl_entries.specs.Revocations.{Means, nothing}
use Rattle.krl_types.specs.declared.krl_fault.KrlFault.{KrlFault}
use Rattle.krl_make.specs.Making.{IsOldList, Makes, make_run_of, new_base}
use Rattle.krl_make.specs.declared.base.Base.{Base}
use Rattle.krl_make.specs.declared.run.Wanted.{Wanted}
use Rattle.list_making.specs.Target.{Old}
use Rattle.run_faults.specs.RunFault.{RunFault, krl_cause, run_fault_of}
use Rattle.run_faults.specs.declared.cause.Cause.TheVariants.{File}
use Rattle.run_faults.specs.declared.file_fault.FileFault.TheVariants.{Open}

-- The old list as it is read: nothing, unless it is updated; otherwise what its bytes say, if its
-- reader knows them, or that the reader failed.
abbrev pub IsReadOver : (update : Bool) → Old → Result Base KrlFault → Type 0
IsReadOver false old outcome = (outcome ≡ Ok new_base) × Means nothing []
IsReadOver true None outcome = ⊥
IsReadOver true (Some before) outcome =
    (failed : Bool) × (left : Option (List ℕ)) × IsResultOf IsOldList before outcome failed left

-- A list is made over the old one, or not.
pub record RunsOver (wanted : Wanted) (old : Old) (result : Result (List ℕ) RunFault) : Type 0 where
  pub outcome : Result Base KrlFault
  pub over : IsReadOver wanted.update old outcome
  pub makes : Makes (λ (bytes : List ℕ). bytes) wanted.name.now outcome wanted.authority.now
      wanted.version wanted.files.now (make_run_of wanted.name.now outcome wanted.authority.now
      wanted.version wanted.files.now wanted.date) result

-- There is no list to update.
abbrev pub LacksOld : Bool → Old → Type 0
LacksOld update old = (update ≡ true) × (old ≡ None)

-- Why the old list is not read: there is none, or it has this fault.
abbrev pub IsUnread : Wanted → Old → RunFault → Type 0
IsUnread wanted old stop =
    (LacksOld wanted.update old × (stop ≡ run_fault_of wanted.name.now (File Open)))
    ⊎ ((fault : KrlFault) × IsReadOver wanted.update old (Err fault)
    × (stop ≡ run_fault_of wanted.name.now (krl_cause fault)))

-- Why no list is made: there is none to update, or the run has this fault.
abbrev pub Refuses : Wanted → Old → RunFault → Type 0
Refuses wanted old fault =
    (LacksOld wanted.update old × (fault ≡ run_fault_of wanted.name.now (File Open)))
    ⊎ RunsOver wanted old (Err fault)
