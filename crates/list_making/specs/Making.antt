-- A list that is made over what is under its name, and put there.
use Rattle.std.specs.Prelude.{◌≡◌, ℕ, ◌⊎◌, Bool, true, List, Option, Some}
use Rattle.run_faults.specs.declared.cause.Cause.{Cause}
use Rattle.list_making.specs.Target.{IsCut, IsKept, Old}

-- The bytes were made over the list that they follow, where that is read, and are under the name
-- now in its stead.
pub record IsPut {P : Type 0} (holds : P → Option (List ℕ) → Type 0)
    (replaced : P → Old → Type 0) (reads : Bool) (Makes : Old → Type 0) (bytes : List ℕ) (new : P)
    : Type 0 where
  pub old : Old
  pub over : reads ≡ true → replaced new old
  pub makes : Makes old
  pub held : holds new (Some bytes)

-- Why no list was put: none is made over the list that it follows; or the place has a fault.
pub data WhyUnput {P F : Type 0} (base : P → Old → Type 0) (reads : Bool)
    (Refuses : Old → F → Type 0) (fault_of : Cause → F) (new : P) (fault : F) : Type 0 where
  refused : (old : Old) → (reads ≡ true → base new old) → Refuses old fault
      → WhyUnput base reads Refuses fault_of new fault
  unheld : (cause : Cause) → fault ≡ fault_of cause
      → WhyUnput base reads Refuses fault_of new fault

-- The list that was under the name still is there, unless another program changed it, or the new
-- list was written in place and the fault says how much of it.
abbrev pub IsUntouched : {P F : Type 0} → (holds : P → Option (List ℕ) → Type 0)
    → (overtaken : P → Type 0) → (fault_of : Cause → F) → (old new : P) → F → Type 0
IsUntouched holds overtaken fault_of old new fault =
    IsKept holds overtaken old new ⊎ ((cause : Cause) × IsCut cause × (fault ≡ fault_of cause))
