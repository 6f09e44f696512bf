-- The end of a check.
use Rattle.std.proofs.Common.{◌≡◌, ℕ, ◌||◌, Bool, true, false, List, [], ◌∷◌, ◌++◌, Option, Some, None, Result, Ok, Err, refl, ap, ◌∙◌}
use Rattle.std.specs.Prelude.{OnOk, is_some}
use Rattle.std.specs.Result.{result_err}
use Rattle.run_faults.specs.RunFault.{RunFault}
use Rattle.run_output.specs.Carries.{Carries, Reaches}
use Rattle.run_output.specs.Done.{Ends}
use Rattle.run_output.specs.Printer.{HasSaid, Printer}
use Rattle.run_output.specs.Run.{Answered, Item, Passed, Stopped, outcome_of}
use Rattle.run_output.proofs.RunParts.{carries_more}
use Rattle.run_output.specs.declared.done.Done.{Done}
use Rattle.krl_arguments.specs.declared.task.Check.{Check}
use Rattle.krl_format.specs.declared.header.Header.{Header}
use Rattle.list_conditions.specs.Check.{EndsCheck, check_status}
use Rattle.any_list.specs.Told.{Reading}
use Rattle.check_run.specs.Files.{Named}
use Rattle.any_list.specs.List.{stated_by}
use Rattle.check_run.specs.Run.{ChecksAll, EndsBeside, EndsChecked, EndsIf}
use Rattle.check_run.specs.Version.{PrintsVersion}
use Rattle.check_run.specs.declared.limits.Unanswered.{Unanswered}
use Rattle.check_run.specs.declared.limits.Limits.{Limits}
use Rattle.check_run.specs.declared.limits.Loaded.{Loaded}

some_is : {A : Type 0} (x : A) → Some x ≡ None → ⊥
some_is x is = cc

-- a run with one more stop has one
never_none : (run : List Item) (stop : RunFault) → (outcome_of (run ++ Stopped stop ∷ [])).stop ≡ None → ⊥
never_none [] stop is = some_is stop is
never_none (Answered name answer ∷ items) stop is = never_none items stop is
never_none (Passed name ∷ items) stop is = never_none items stop is
never_none (Stopped other ∷ items) stop is = some_is other is

-- How a check ends, whatever it printed before.
abbrev EndsAny : Result (Unit {0}) RunFault → Printer → Bool → Bool → Option (List ℕ) → Bool → ℕ → Option RunFault → Type 0
EndsAny result mid refused unread taken failed status fault =
    (before : Option (List ℕ)) (run : List Item) → Reaches before run (result_err result) mid → EndsCheck run refused unread before taken failed status fault

-- A stop is reported: the end is also that of a run with one more stop after the first one.
stop_is_kept : (items : List Item) (result : Result (Unit {0}) RunFault) (old mid : Printer) (before taken : Option (List ℕ)) (refused unread failed : Bool) (status : ℕ) (fault : Option RunFault)
    → Carries items result old mid → HasSaid before [] old → EndsAny result mid refused unread taken failed status fault → fault ≡ None → result_err result ≡ None
stop_is_kept items (Ok done) old mid before taken refused unread failed status fault carries has ends is = refl
stop_is_kept items (Err stop) old mid before taken refused unread failed status None carries has ends is =
    let more = carries_more {A = Unit {0}} {B = Unit {0}} items (Stopped stop ∷ []) stop old mid carries in
    let ended = ends before (items ++ Stopped stop ∷ []) (more.says before [] has) in
    absurd (never_none items stop ended.ends.reported)
stop_is_kept items (Err stop) old mid before taken refused unread failed status (Some fault) carries has ends is = absurd (some_is fault is)

ends_as : (result : Result (Unit {0}) RunFault) (items : List Item) (refused unread fails some : Bool) (before taken : Option (List ℕ)) (failed : Bool) (status : ℕ) (fault : Option RunFault)
    → OnOk result (refused ≡ fails) → OnOk result (unread ≡ some) → (fault ≡ None → result_err result ≡ None) → EndsCheck items refused unread before taken failed status fault → EndsCheck items fails some before taken failed status fault
ends_as (Ok done) items refused unread fails some before taken failed status fault refused_is unread_is kept ends = record {
  ends = ends.ends;
  status_is = ends.status_is ∙ (ap (λ (u : Bool). check_status (is_some fault || u) refused) unread_is ∙ ap (λ (r : Bool). check_status (is_some fault || some) r) refused_is);
}
ends_as (Err stop) items refused unread fails some before taken failed status None refused_is unread_is kept ends = absurd (some_is stop (kept refl))
ends_as (Err stop) items refused unread fails some before taken failed status (Some fault) refused_is unread_is kept ends = record { ends = ends.ends; status_is = ends.status_is }

all_reached : (result : Result (Unit {0}) RunFault) (later : List Named) → result_err result ≡ None → OnOk result (later ≡ []) → later ≡ []
all_reached (Ok done) later is all = all
all_reached (Err stop) later is all = absurd (some_is stop is)

pub ended : (told : List Reading) (name bytes : List ℕ) (task : Check) (limits : Limits) (result : Result (Unit {0}) RunFault) (old mid : Printer) (before taken : Option (List ℕ)) (refused unread failed : Bool) (status : ℕ) (fault : Option RunFault)
    → ChecksAll told name bytes task limits result old mid refused unread → HasSaid before [] old → EndsAny result mid refused unread taken failed status fault → EndsChecked told name bytes task limits before taken failed status fault
ended told name bytes task limits result old mid before taken refused unread failed status fault all has ends =
    let kept : fault ≡ None → result_err result ≡ None = stop_is_kept all.items result old mid before taken refused unread failed status fault all.checks.carries has ends in
    record {
      items = all.items;
      fails = all.fails;
      unread = all.some;
      later = all.later;
      is = all.is;
      ends = ends_as result all.items refused unread all.fails all.some before taken failed status fault all.checks.refused all.unread_is kept (ends before all.items (all.checks.carries.says before [] has));
      all = λ none. all_reached result all.later (kept none) all.all;
    }

-- The final state of the printer's writer is that of the writer.
pub ended_there : (told : List Reading) (name bytes : List ℕ) (task : Check) (limits : Limits) (before taken taken' : Option (List ℕ)) (failed failed' : Bool) (status : ℕ) (fault : Option RunFault)
    → EndsChecked told name bytes task limits before taken failed status fault → taken' ≡ taken → failed' ≡ failed → EndsChecked told name bytes task limits before taken' failed' status fault
ended_there told name bytes task limits before taken taken' failed failed' status fault ends is_taken is_failed = rw (is_taken, is_failed) ends

pub ends_there : (items : List Item) (before taken taken' : Option (List ℕ)) (failed failed' : Bool) (status : ℕ) (fault : Option RunFault)
    → Ends items before taken failed status fault → taken' ≡ taken → failed' ≡ failed → Ends items before taken' failed' status fault
ends_there items before taken taken' failed failed' status fault ends is_taken is_failed = rw (is_taken, is_failed) ends

-- ---- the list is read

pub ends_version : (only : Bool) (told : List Reading) (name bytes : List ℕ) (task : Check) (loaded : Loaded) (before after : Option (List ℕ)) (failed : Bool) (result : Result Done Unanswered) (header : Option Header)
    → only ≡ true → told ≡ [] → PrintsVersion name (stated_by header) before after failed result → EndsIf only told name bytes header task loaded before after failed result
ends_version only told name bytes task loaded before after failed result header is none prints = rw is (none, prints)

pub ends_beside : (only : Bool) (told : List Reading) (name bytes : List ℕ) (task : Check) (loaded : Loaded) (before after : Option (List ℕ)) (failed : Bool) (result : Result Done Unanswered) (header : Option Header)
    → only ≡ false → EndsBeside told name bytes task loaded before after failed result → EndsIf only told name bytes header task loaded before after failed result
ends_beside only told name bytes task loaded before after failed result header is ends = rw is ends
