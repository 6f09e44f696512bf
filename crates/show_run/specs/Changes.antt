-- The revocations of each of two lists that the other lacks.
use Rattle.std.specs.Prelude.{◌≡◌, ℕ, List, [], ◌∷◌, ◌++◌, Ok}
use Rattle.run_faults.specs.RunFault.{RunFault, run_fault_of}
use Rattle.run_faults.specs.declared.cause.Cause.TheVariants.{NoMemory}
use Rattle.krl_entries.specs.Revocations.{Revocations, nothing}
use Rattle.list_diff.specs.Without.{HoldsWithout}
use Rattle.any_list.specs.List.{IsGiven, IsReadList, IsRefused}
use Rattle.any_list.specs.Told.{ListRead, Reading}
use Rattle.any_list.specs.declared.list.List.{List as ListOf}
use Rattle.show_run.specs.declared.changes.Changes.{Changes}

-- exactly what only the new list names was added, and exactly what only the old one names removed
pub record AreChanges (old new : Revocations) (changes : Changes) : Type 0 where
  pub added : HoldsWithout old new changes.added
  pub removed : HoldsWithout new old changes.removed

-- both name the same
abbrev pub IsUnchanged : Changes → Type 0
IsUnchanged changes = (changes.added ≡ nothing) × (changes.removed ≡ nothing)

-- The files of both names were read once each, the old one first, and the lists are read from these
-- bytes.
pub record AreRead (told : List Reading) (old new : List ℕ) (before after : ListOf) : Type 0 where
  pub olds : List ℕ
  pub news : List ℕ
  pub told_is : told ≡ ListRead old (Ok olds) ∷ (ListRead new (Ok news) ∷ [])
  pub is_before : IsReadList old olds before
  pub is_after : IsReadList new news after

-- Both lists were read, and these are their changes.
pub record AreCompared (told : List Reading) (old new : List ℕ) (changes : Changes) : Type 0
  where
    pub before : ListOf
    pub after : ListOf
    pub read : AreRead told old new before after
    pub are : AreChanges before.revocations after.revocations changes

-- The old list is refused, and the new one was not read; or the new one is refused after the old
-- one was read; or an allocation failed after both were.
pub data IsUncompared (told : List Reading) (old new : List ℕ) (stop : RunFault) : Type 0 where
  old_refused : IsRefused told old stop → IsUncompared told old new stop
  new_refused : (first last : List Reading) → told ≡ first ++ last → (olds : List ℕ)
      → (before : ListOf) → IsGiven first old olds before → IsRefused last new stop
      → IsUncompared told old new stop
  ran_out : (before after : ListOf) → AreRead told old new before after
      → stop ≡ run_fault_of new NoMemory → IsUncompared told old new stop

-- Two lists with these bytes have these changes.
pub record HasChanges (old new : List ℕ) (changes : Changes) : Type 0 where
  pub name : List ℕ
  pub before : ListOf
  pub is_before : IsReadList name old before
  pub other : List ℕ
  pub after : ListOf
  pub is_after : IsReadList other new after
  pub are : AreChanges before.revocations after.revocations changes
