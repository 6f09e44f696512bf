-- The limits of a list: the version of another one, an age, the names of another one, and the list
-- that an sshd uses.
use Rattle.std.specs.Borrow.{Bor}
use Rattle.std.specs.Prelude.{◌≡◌, ℕ, true, List, [], ◌∷◌, ◌++◌, codes, Option, Some, None, Ok}
use Rattle.std.specs.Prelude.{is_some}
use Rattle.run_faults.specs.RunFault.{RunFault, run_fault_of}
use Rattle.run_faults.specs.declared.cause.Cause.TheVariants.{NoMemory}
use Rattle.krl_format.specs.declared.header.Header.{Header}
use Rattle.krl_types.specs.Entry.{Entry}
use Rattle.plain_list.specs.Any.{Names}
use Rattle.text_entries.specs.AuthorityNames.{NamedKeys}
use Rattle.krl_arguments.specs.declared.task.Check.{Check}
use Rattle.any_list.specs.List.{IsGiven, IsRefused}
use Rattle.any_list.specs.Told.{ClockRead, ListRead, Reading}
use Rattle.any_list.specs.declared.list.List.{List as ListOf}
use Rattle.check_run.specs.Lists.{IsOtherOf}
use Rattle.check_run.specs.Losses.{AreLost}
use Rattle.check_run.specs.declared.limits.AgeLimit.{AgeLimit}
use Rattle.check_run.specs.declared.limits.Limits.{Limits}
use Rattle.check_run.specs.declared.limits.Loaded.{Loaded}
use Rattle.check_run.specs.declared.lists.Lost.{Lost}
use Rattle.check_run.specs.declared.lists.Other.{Other}
use Rattle.check_run.specs.declared.limits.Unanswered.{Unanswered}
use Rattle.check_run.specs.declared.limits.Unanswered.TheVariants as unanswered

abbrev pub unanswered_words : Unanswered → List ℕ
unanswered_words unanswered.Clock = codes "the clock of this host cannot be read"
unanswered_words unanswered.Version = codes "a plain list has no version"

-- The age is limited by this number of seconds before the present moment, or not at all.
abbrev pub IsAgeLimit : List Reading → Option ℕ → Option AgeLimit → Type 0
IsAgeLimit told None limit = (told ≡ []) × (limit ≡ None)
IsAgeLimit told (Some max_age) None = ⊥
IsAgeLimit told (Some max_age) (Some limit) =
    (told ≡ ClockRead (Some limit.now) ∷ []) × (limit.max_age ≡ max_age)

-- The age is limited, and the clock cannot be read.
pub record IsClockless (told : List Reading) (max_age : Option ℕ) (why : Unanswered) : Type 0 where
  pub limited : is_some max_age ≡ true
  pub told_is : told ≡ ClockRead None ∷ []
  pub why_is : why ≡ unanswered.Clock

-- The file of the other list was read once, and exactly what this list names and these entries do
-- not is held as lost, with these names of authorities.
pub record IsLost (told : List Reading) (own : List Entry) (name : List ℕ)
    (named : Option (Bor NamedKeys)) (lost : Lost) : Type 0
  where
    pub bytes : List ℕ
    pub header : Option Header
    pub entries : List Entry
    pub told_is : told ≡ ListRead name (Ok bytes) ∷ []
    pub names : Names bytes header entries
    pub name_is : lost.name.now ≡ name
    pub named_are : lost.names ≡ named
    pub are : AreLost own entries lost.held

abbrev pub IsLostOf : List Reading → List Entry → Option (Bor (List ℕ))
    → (named : Option (Bor NamedKeys)) → Option Lost → Type 0
IsLostOf told own None named lost = (told ≡ []) × (lost ≡ None)
IsLostOf told own (Some name) named None = ⊥
IsLostOf told own (Some name) named (Some lost) = IsLost told own name.now named lost

-- The other list is refused, or an allocation failed while it was compared.
pub data IsUncompared (told : List Reading) (name : List ℕ) (stop : RunFault) : Type 0 where
  unread : IsRefused told name stop → IsUncompared told name stop
  ran_out : (bytes : List ℕ) → (other : ListOf) → IsGiven told name bytes other
      → stop ≡ run_fault_of name NoMemory → IsUncompared told name stop

abbrev pub IsLostUnknown : List Reading → Option (Bor (List ℕ)) → RunFault → Type 0
IsLostUnknown told None stop = ⊥
IsLostUnknown told (Some name) stop = IsUncompared told name.now stop

-- The other lists of a task were read, that of `--newer-than` first, beside the list with these
-- bytes.
pub record AreOthers (told : List Reading) (bytes : List ℕ) (task : Check)
    (named : Option (Bor NamedKeys)) (other : Option Other) (lost : Option Lost) : Type 0 where
  pub others : List Reading
  pub losts : List Reading
  pub told_is : told ≡ others ++ losts
  pub is_other : IsOtherOf others task.newer_than other
  pub header : Option Header
  pub entries : List Entry
  pub names : Names bytes header entries
  pub is_lost : IsLostOf losts entries task.superset_of named lost

-- The limits that a task sets to the list with these bytes, with the sshd that must use it: the
-- clock was read after the lists.
pub record AreLimits (told : List Reading) (bytes : List ℕ) (task : Check) (loaded : Loaded)
    (limits : Limits) : Type 0 where
  pub lists : List Reading
  pub moments : List Reading
  pub told_is : told ≡ lists ++ moments
  pub others : AreOthers lists bytes task loaded.names limits.other limits.lost.now
  pub age : IsAgeLimit moments task.max_age limits.age
  pub sshd_is : limits.sshd ≡ loaded.sshd
