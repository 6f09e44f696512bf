-- The runs of the commands that print about lists. The files and the clock are those of the system,
-- of which nothing is known: they told something.
use Rattle.std.specs.Borrow.{Bor}
use Rattle.std.specs.Prelude.{◌≡◌, ℕ, Bool, true, false, List, Option, option_map, Result, Ok}
use Rattle.std.specs.Prelude.{Err}
use Rattle.any_list.specs.Told.{Reading}
use Rattle.check_run.specs.Run.{EndsCheckRun}
use Rattle.check_run.specs.declared.limits.Loaded.{Loaded}
use Rattle.check_run.specs.declared.limits.Unanswered.{Unanswered}
use Rattle.krl.specs.Names.{AreNamesOf}
use Rattle.krl.specs.Sshd.{IsUseBy}
use Rattle.krl_arguments.specs.declared.task.Check.{Check}
use Rattle.krl_arguments.specs.declared.task.Diff.{Diff}
use Rattle.krl_arguments.specs.declared.task.Show.{Show}
use Rattle.list_text.specs.declared.form.Form.{Form}
use Rattle.list_text.specs.declared.form.Form.TheVariants.{Json, JsonUnnamed, Text}
use Rattle.list_text.specs.declared.form.Form.TheVariants.{Unnamed}
use Rattle.run_faults.specs.RunFault.{RunFault}
use Rattle.run_output.specs.declared.done.Done.{Done}
use Rattle.show_run.specs.Comparison.{EndsDiffRun}
use Rattle.show_run.specs.Run.{EndsShowRun}
use Rattle.show_run.specs.declared.comparison.Comparison.{Comparison}
use Rattle.text_entries.specs.AuthorityNames.{NamedKeys}

-- the form in which lists are shown
abbrev pub shown_form : (json no_name : Bool) → Option (Bor NamedKeys) → Form
shown_form true false names = Json names
shown_form true true names = JsonUnnamed names
shown_form false false names = Text names
shown_form false true names = Unnamed names

-- the names that are lent
abbrev pub names_now : Option (Bor NamedKeys) → Option NamedKeys
names_now names = option_map (λ names. names.now) names

-- The lists of the task were shown so, with this status, by the names that its texts give; or a
-- text is refused.
pub data IsShown (task : Show) (status : ℕ) : Type 0 where
  unnamed : status ≡ 255 → IsShown task status
  shown : (names : Option (Bor NamedKeys)) → AreNamesOf task.names.items (names_now names)
      → (told : List Reading) → (before after : Option (List ℕ)) → (failed : Bool)
      → (fault : Option RunFault)
      → EndsShowRun told task.lists.items (shown_form task.json task.no_name names) before after
      failed status fault
      → IsShown task status

-- the lists that a task compares, by these names
abbrev pub comparison_of : Diff → Option (Bor NamedKeys) → Comparison
comparison_of task names =
    record { old = task.old; new = task.new; json = task.json; names = names }

-- The lists of the task were compared so, with this status, by the names that its texts give; or a
-- text is refused.
pub data IsCompared (task : Diff) (status : ℕ) : Type 0 where
  unnamed : status ≡ 255 → IsCompared task status
  compared : (names : Option (Bor NamedKeys)) → AreNamesOf task.names.items (names_now names)
      → (told : List Reading) → (before after : Option (List ℕ)) → (failed : Bool)
      → (fault : Option RunFault)
      → EndsDiffRun told (comparison_of task names) before after failed status fault
      → IsCompared task status

-- the status of a check: 255 if nothing was said about the list
abbrev pub checked_status : Result Done Unanswered → ℕ
checked_status (Ok done) = done.status
checked_status (Err why) = 255

-- The list of the task was checked so, with this status, by the names that its texts give, and by
-- the list that the sshd of its output of sshd -T uses; or a text is refused.
pub data IsChecked (task : Check) (status : ℕ) : Type 0 where
  unread : status ≡ 255 → IsChecked task status
  checked : (loaded : Loaded) → AreNamesOf task.names.items (names_now loaded.names)
      → IsUseBy task.list.now task.sshd loaded.sshd
      → (told : List Reading) → (before after : Option (List ℕ)) → (failed : Bool)
      → (result : Result Done Unanswered)
      → EndsCheckRun told task loaded before after failed result
      → status ≡ checked_status result → IsChecked task status
