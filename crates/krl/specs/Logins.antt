-- How a search for logins ends. Nothing is claimed of what the file system states.
use Rattle.std.specs.Prelude.{◌≡◌, ℕ, Bool, List, Option}
use Rattle.std.specs.Borrow.{Bor}
use Rattle.krl_arguments.specs.Task.{logins_by, name_or_first}
use Rattle.krl_arguments.specs.declared.task.Logins.{Logins}
use Rattle.krl_fingerprints.specs.declared.keys_by.KeysBy.TheVariants.{Fingerprint}
use Rattle.audit_run.specs.Fact.{Fact}
use Rattle.audit_run.specs.declared.options.Terminal.{Terminal}
use Rattle.login_run.specs.Order.{IsLoginOrder}
use Rattle.login_run.specs.Run.{EndsLogins}
use Rattle.login_run.specs.declared.order.LoginOrder.{LoginOrder}
use Rattle.login_run.specs.declared.run.LoginsEnd.{LoginsEnd}
use Rattle.login_run.specs.declared.run.LoginsEnd.TheVariants as ends
use Rattle.krl.specs.Audit.{index_now}
use Rattle.krl.specs.Texts.{AreAsked}
use Rattle.text_index.specs.declared.indexing.TextIndex.{TextIndex}

-- the status after a search: that of the run, or 255 if none was made
abbrev pub logins_status : LoginsEnd → ℕ
logins_status (ends.Ended done summary) = done.status
logins_status (ends.Incomparable why) = 255
logins_status (ends.Refused stop) = 255

-- The status is that of a search that the task asks for, by a list with these bytes and by these
-- texts.
pub record EndsLoginsBy (InputFailed : Type 0) (task : Logins) (bytes : List ℕ)
    (texts : Option (Bor TextIndex)) (status : ℕ) : Type 0 where
  pub terminal : Terminal
  pub order : LoginOrder
  pub is_order : IsLoginOrder task texts terminal order
  pub input : Option (List ℕ)
  pub before : Option (List ℕ)
  pub after : Option (List ℕ)
  pub failed : Bool
  pub ended : LoginsEnd
  pub ends : EndsLogins (λ (fact : Fact). Unit {0}) InputFailed order bytes input before after
      failed ended
  pub status_is : status ≡ logins_status ended

-- The logs of the task were searched with this status by its list and its texts, or they are
-- refused.
pub data IsSearched (InputFailed : Type 0) (task : Logins) (status : ℕ) : Type 0 where
  refused : status ≡ 255 → IsSearched InputFailed task status
  searched : (bytes : List ℕ) (texts : Option (Bor TextIndex))
      → AreAsked Fingerprint task.texts.items task.list
      (name_or_first (logins_by task).list (logins_by task).texts) bytes (index_now texts)
      → EndsLoginsBy InputFailed task bytes texts status
      → IsSearched InputFailed task status
