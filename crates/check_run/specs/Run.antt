-- A whole check: what it prints, and how it ends.
use Rattle.std.specs.Prelude.{◌≡◌, ◌↔◌, ℕ, ◌||◌, Bool, true, false, List, [], ◌∷◌, ◌++◌, Option}
use Rattle.std.specs.Prelude.{Some, None, Result, Ok, Err, OnOk, if◌then◌else◌, length}
use Rattle.run_faults.specs.RunFault.{RunFault}
use Rattle.run_output.specs.Printer.{Printer}
use Rattle.run_output.specs.Run.{Item}
use Rattle.run_output.specs.declared.done.Done.{Done}
use Rattle.krl_arguments.specs.declared.task.Check.{Check}
use Rattle.krl_format.specs.declared.header.Header.{Header}
use Rattle.krl_types.specs.Entry.{Entry}
use Rattle.krl_entries.specs.Reasons.{reasons_of}
use Rattle.krl_entries.specs.Revocations.{Revocations}
use Rattle.krl_format.specs.declared.header.Stated.{Stated}
use Rattle.audit_text.specs.declared.format.Format.{Format}
use Rattle.audit_text.specs.declared.format.Format.TheVariants.{Json, Text}
use Rattle.list_conditions.specs.Authorities.{HasAuthorities}
use Rattle.list_conditions.specs.Check.{EndsCheck, NamesNobody, condition_items, end_items}
use Rattle.list_conditions.specs.Check.{names_nobody}
use Rattle.list_conditions.specs.Condition.{fails}
use Rattle.list_conditions.specs.declared.checker.Checker.{Checker}
use Rattle.list_conditions.specs.declared.condition.Condition.{Condition}
use Rattle.list_conditions.specs.declared.condition.Condition.TheVariants.{Slow}
use Rattle.plain_list.specs.Any.{Names}
use Rattle.any_list.specs.List.{IsRefused, stated_by}
use Rattle.any_list.specs.Told.{ListRead, Reading}
use Rattle.check_run.specs.Files.{AreRead, Named, Read, files_of, reads_fail, reads_items}
use Rattle.check_run.specs.Files.{some_unread}
use Rattle.check_run.specs.Limits.{AreLimits, AreOthers, IsClockless, IsLostUnknown}
use Rattle.check_run.specs.Lists.{Checks, IsFormat, IsOtherOf, IsOtherRefused}
use Rattle.check_run.specs.Lists.{empty_fails, empty_items, format_items, limits_fail}
use Rattle.check_run.specs.Lists.{limits_items, most_cas}
use Rattle.check_run.specs.Version.{PrintsVersion}
use Rattle.check_run.specs.declared.limits.Limits.{Limits}
use Rattle.check_run.specs.declared.limits.Loaded.{Loaded}
use Rattle.check_run.specs.declared.lists.Lost.{Lost}
use Rattle.check_run.specs.declared.lists.Other.{Other}
use Rattle.check_run.specs.declared.limits.Unanswered.{Unanswered}

-- ---- all conditions, in their order

-- The facts that the conditions for the list itself depend on: the condition that OpenSSH reads it
-- alike, whether it revokes nobody, how many certificate authorities it has, its version and date,
-- and its limits.
pub record Judged : Type 0 where
  pub format : Condition
  pub nobody : Bool
  pub authorities : ℕ
  pub stated : Option Stated
  pub limits : Limits

-- the form in which a task wants what is printed
abbrev pub form_of : Check → Format
form_of task = if task.json then Json else Text

abbrev pub list_items : Format → List ℕ → Judged → Check → List Item
list_items form name list task =
    format_items form name list.format
    ++ (empty_items form name list.nobody task.allow_empty
    ++ (condition_items form name (Slow list.authorities (most_cas task.max_cas))
    ++ limits_items form name list.stated list.limits))

abbrev pub list_fails : Judged → Check → Bool
list_fails list task =
    fails list.format
    || (empty_fails list.nobody task.allow_empty
    || (fails (Slow list.authorities (most_cas task.max_cas))
    || limits_fail list.stated list.limits))

-- A check of this list, by its limits, prints these items. It says whether a condition fails and
-- whether a file was not read, and these files were not reached.
pub record IsChecked (told : List Reading) (name bytes : List ℕ) (task : Check)
    (limits : Limits) (items : List Item) (fails unread : Bool) (later : List Named) : Type 0
  where
    pub header : Option Header
    pub entries : List Entry
    pub names : Names bytes header entries
    pub list : Judged
    pub is_format : IsFormat bytes list.format
    pub is_nobody : list.nobody ≡ true ↔ NamesNobody entries
    pub are_counted : HasAuthorities entries list.authorities
    pub stated_is : list.stated ≡ stated_by header
    pub limits_are : list.limits ≡ limits
    pub reads : List Read
    pub are_read : AreRead told (files_of task) reads later
    pub items_are : items
        ≡ list_items (form_of task) name list task
        ++ (reads_items (form_of task) (reasons_of entries) reads later
        ++ end_items (form_of task) name fails)
    pub fails_is : fails ≡ (list_fails list task || reads_fail (reasons_of entries) reads)
    pub unread_is : unread ≡ some_unread reads

-- ---- the end

-- The check of the list came to an end. Unless a fault stopped it, it reached each file.
pub record EndsChecked (told : List Reading) (name bytes : List ℕ) (task : Check)
    (limits : Limits) (before after : Option (List ℕ)) (failed : Bool) (status : ℕ)
    (fault : Option RunFault) : Type 0 where
  pub items : List Item
  pub fails : Bool
  pub unread : Bool
  pub later : List Named
  pub is : IsChecked told name bytes task limits items fails unread later
  pub ends : EndsCheck items fails unread before after failed status fault
  pub all : fault ≡ None → later ≡ []

-- A list is refused. Nothing was printed.
pub record EndsRefused (Is : RunFault → Type 0) (before after : Option (List ℕ)) (failed : Bool)
    (result : Result Done Unanswered) : Type 0 where
  pub stop : RunFault
  pub is : Is stop
  pub done : Done
  pub result_is : result ≡ Ok done
  pub fault_is : done.fault ≡ Some stop
  pub status_is : done.status ≡ 255
  pub after_is : after ≡ before
  pub works : failed ≡ false

-- The other lists and the clock were read, and then the check of a list that was read came to an
-- end, with the files of keys. Or the list of `--newer-than` is refused; or that of `--superset-of`
-- is, after the first one was read; or the clock cannot be read, after both were; and nothing was
-- printed.
pub data EndsBeside (told : List Reading) (name bytes : List ℕ) (task : Check)
    (loaded : Loaded) (before after : Option (List ℕ)) (failed : Bool)
    (result : Result Done Unanswered) : Type 0
  where
    beside : (limits : Limits) → (first files : List Reading) → told ≡ first ++ files
        → AreLimits first bytes task loaded limits → (done : Done) → result ≡ Ok done
        → EndsChecked files name bytes task limits before after failed done.status done.fault
        → EndsBeside told name bytes task loaded before after failed result
    other_refused :
        EndsRefused (IsOtherRefused told task.newer_than) before after failed result
        → EndsBeside told name bytes task loaded before after failed result
    lost_unknown : (other : Option Other) → (first last : List Reading) → told ≡ first ++ last
        → IsOtherOf first task.newer_than other
        → EndsRefused (IsLostUnknown last task.superset_of) before after failed result
        → EndsBeside told name bytes task loaded before after failed result
    clockless : (other : Option Other) → (lost : Option Lost) → (first last : List Reading)
        → told ≡ first ++ last → AreOthers first bytes task loaded.names other lost
        → (why : Unanswered) → IsClockless last task.max_age why
        → result ≡ Err why → after ≡ before → failed ≡ false
        → EndsBeside told name bytes task loaded before after failed result

-- The version of a list that was read is printed, and nothing else is read; or the list is checked.
abbrev pub EndsIf : (only_version : Bool) → List Reading → (name bytes : List ℕ) → Option Header
    → Check → Loaded → (before after : Option (List ℕ)) → (failed : Bool)
    → Result Done Unanswered → Type 0
EndsIf true told name bytes header task loaded before after failed result =
    (told ≡ []) × PrintsVersion name (stated_by header) before after failed result
EndsIf false told name bytes header task loaded before after failed result =
    EndsBeside told name bytes task loaded before after failed result

-- The list of the task was read first, and the task was done with it, by these names of authorities
-- and this use of lists by an sshd; or the list is refused, and nothing else was read.
pub data EndsCheckRun (told : List Reading) (task : Check) (loaded : Loaded)
    (before after : Option (List ℕ)) (failed : Bool) (result : Result Done Unanswered)
    : Type 0 where
  read : (bytes : List ℕ) → (later : List Reading)
      → told ≡ ListRead task.list.now (Ok bytes) ∷ later
      → (header : Option Header) → (entries : List Entry) → Names bytes header entries
      → EndsIf task.print_version later task.list.now bytes header task loaded before after failed
      result
      → EndsCheckRun told task loaded before after failed result
  refused : EndsRefused (IsRefused told task.list.now) before after failed result
      → EndsCheckRun told task loaded before after failed result

-- ---- the parts of a run

-- A condition for the list itself was checked, or the check was stopped. Nothing else changed.
pub record ChecksBy {W : Type 0} (items : Format → List Item) (fails : Bool)
    (result : Result (Unit {0}) RunFault) (old new : Checker W) : Type 0 where
  pub checks
      : Checks (items old.auditor.judge.shown.format) fails result
      old.auditor.run.printer new.auditor.run.printer old.refused new.refused
  pub unread : new.unread ≡ old.unread
  pub judge : new.auditor.judge ≡ old.auditor.judge

-- The conditions for the list itself were checked, or the check was stopped within them.
pub record ChecksList (form : Format) (name bytes : List ℕ) (stated : Option Stated)
    (held : Revocations) (task : Check) (limits : Limits) (result : Result (Unit {0}) RunFault)
    (old new : Printer) (before after : Bool) : Type 0 where
  pub list : Judged
  pub is_format : IsFormat bytes list.format
  pub nobody_is : list.nobody ≡ names_nobody held
  pub authorities_is : list.authorities ≡ length held.sections
  pub stated_is : list.stated ≡ stated
  pub limits_are : list.limits ≡ limits
  pub checks : Checks (list_items form name list task) (list_fails list task) result old new before
      after

-- All conditions were checked, or the check was stopped within them.
pub record ChecksAll (told : List Reading) (name bytes : List ℕ) (task : Check)
    (limits : Limits) (result : Result (Unit {0}) RunFault) (old new : Printer)
    (refused unread : Bool) : Type 0 where
  pub items : List Item
  pub fails : Bool
  pub some : Bool
  pub later : List Named
  pub is : IsChecked told name bytes task limits items fails some later
  pub checks : Checks items fails result old new false refused
  pub unread_is : OnOk result (unread ≡ some)
  pub all : OnOk result (later ≡ [])
