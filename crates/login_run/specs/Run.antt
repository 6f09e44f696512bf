-- The whole audit of logs, from the bytes of the list and of the logs to the text and the status.
use Rattle.std.specs.Prelude.{◌≡◌, ◌⊎◌, ℕ, Bool, false, not, is_some, List, [], ◌∷◌, ◌++◌, Option, Some}
use Rattle.std.specs.Prelude.{None, Result, length}
use Rattle.std.specs.Borrow.{Bor}
use Rattle.json_lines.specs.Field.{json_line}
use Rattle.krl_types.specs.Entry.{Entry}
use Rattle.krl_types.specs.Subject.{Subject}
use Rattle.krl_entries.specs.Revocations.{Means}
use Rattle.krl_fingerprints.specs.Printed.{printed}
use Rattle.run_faults.specs.RunFault.{RunFault, run_fault_of}
use Rattle.run_faults.specs.declared.cause.Cause.TheVariants.{NoMemory}
use Rattle.run_output.specs.Carries.{Reaches}
use Rattle.run_output.specs.Done.{EndsWith}
use Rattle.run_output.specs.Printer.{HasSaid}
use Rattle.run_output.specs.Run.{Item, said_of}
use Rattle.run_output.specs.declared.done.Done.{Done}
use Rattle.any_list.specs.List.{IsListFault, IsReadList, stated_by}
use Rattle.any_list.specs.declared.list.List.{List as ReadList}
use Rattle.audit_run.specs.Fact.{Fact}
use Rattle.audit_run.specs.Run.{HasNames, is_hashed, sha256_if}
use Rattle.audit_text.specs.Answer.{Answer}
use Rattle.krl_audit.specs.Audit.{AreIndexed, JudgesAs, answers_but}
use Rattle.krl_audit.specs.Counts.{all_counted, audit_status}
use Rattle.krl_audit.specs.declared.auditor.Auditor.{Auditor}
use Rattle.krl_audit.specs.declared.counts.Counts.{Counts}
use Rattle.text_index.specs.NamingLines.{Register}
use Rattle.login_run.specs.Finding.{Placed, items_of, kinds_of}
use Rattle.login_run.specs.Log.{IsBroken}
use Rattle.login_run.specs.Summary.{done_object, login_status}
use Rattle.login_run.specs.Visits.{AreVisits, MayBeLeft, all_of}
use Rattle.login_run.specs.declared.order.LoginOrder.{LoginOrder}
use Rattle.login_run.specs.declared.run.LoginsEnd.{LoginsEnd}
use Rattle.login_run.specs.declared.run.LoginsEnd.TheVariants as ends
use Rattle.login_run.specs.declared.run.Queried.{Queried}
use Rattle.login_run.specs.declared.summary.LoginSummary.{LoginSummary}

abbrev pub none_counted : Counts
none_counted = record { keys = 0; revoked = 0; unread = 0 }

abbrev pub summary_of : (files : ℕ) → Counts → Queried → LoginSummary
summary_of files counts queried = record {
  files = files;
  counts = counts;
  sha1s = queried.sha1s;
  stated = queried.stated;
}

-- the last object, which has the SHA-256 of the list
abbrev pub last_if : Option (List ℕ) → (name : List ℕ) → LoginSummary → List Item
last_if None name summary = []
last_if (Some sha256) name summary =
    said_of name (json_line (done_object summary (record {
      name = record { ref_ptr = (0, 0); now = name };
      stated = summary.stated;
      sha256 = sha256;
    }))) ∷ []

-- what an audit of logs printed: its findings, and if it was not stopped its last object
pub data IsRunOf (items last : List Item) (stop : Option RunFault) (run : List Item) : Type 0 where
  whole : run ≡ items ++ last → IsRunOf items last stop run
  stopped : (fault : RunFault) → stop ≡ Some fault → run ≡ items → IsRunOf items last stop run

-- The logs were visited by these answers, up to this many files and these counts, and what was
-- printed came to an end.
pub record CameTo (Knows : Fact → Type 0) (InputFailed : Type 0) (order : LoginOrder)
    (queried : Queried) (input : Option (List ℕ)) (answers : Subject → Answer) (files : ℕ)
    (counts : Counts) (stop : Option RunFault) (IsEnd : List Item → Type 0) : Type 0 where
  pub result : Result ℕ RunFault
  pub visited : List (Bor (List ℕ))
  pub left : List (Bor (List ℕ))
  pub names_are : order.files.now ≡ visited ++ left
  pub found : List (List Placed)
  pub are : AreVisits (IsBroken result) Knows InputFailed (Some input) visited found
  pub rest : MayBeLeft (not order.shown.revoked) counts.revoked result left
  pub run : List Item
  pub is_run : IsRunOf (items_of answers order.shown (all_of found))
      (last_if queried.sha256 order.list.now (summary_of files counts queried)) stop run
  pub end : IsEnd run
  pub counted : stop ≡ None → (files ≡ length visited)
      × (counts ≡ all_counted none_counted (kinds_of answers (all_of found)))

-- What was asked for was visited after nothing was printed or counted, or the run was stopped.
pub record VisitsOrder {W : Type 0} (Knows : Fact → Type 0) (InputFailed : Type 0)
    (order : LoginOrder) (queried : Queried) (input : Option (List ℕ)) (files : ℕ)
    (stop : Option RunFault) (old new : Auditor W) : Type 0 where
  pub came : (answers : Subject → Answer) → JudgesAs old.judge answers
      → old.counts ≡ none_counted → (before : Option (List ℕ)) → HasSaid before [] old.run.printer
      → CameTo Knows InputFailed order queried input answers files new.counts stop
      (λ run. Reaches before run stop new.run.printer)
  pub writer : new.run.printer.writer ≡ old.run.printer.writer

-- The run came to this end.
pub record EndsBy (Knows : Fact → Type 0) (InputFailed : Type 0) (order : LoginOrder)
    (queried : Queried) (input : Option (List ℕ)) (answers : Subject → Answer) (files : ℕ)
    (counts : Counts) (before after : Option (List ℕ)) (failed : Bool) (fault : Option RunFault)
    : Type 0 where
  pub stop : Option RunFault
  pub came : CameTo Knows InputFailed order queried input answers files counts stop
      (λ run. EndsWith run before after failed fault)
  pub kept : fault ≡ None → stop ≡ None

-- the summary of an audit of logs that no fault stopped
abbrev pub summary_unless : Option RunFault → LoginSummary → Option LoginSummary
summary_unless None summary = Some summary
summary_unless (Some fault) summary = None

-- The end of an audit of logs by what the list and the texts mean.
pub record EndsMeant (Knows : Fact → Type 0) (InputFailed : Type 0) (order : LoginOrder)
    (queried : Queried) (input : Option (List ℕ)) (before after : Option (List ℕ))
    (failed : Bool) (summary : Option LoginSummary) (status : ℕ) (fault : Option RunFault)
    : Type 0 where
  pub files : ℕ
  pub counts : Counts
  pub summary_is : summary ≡ summary_unless fault (summary_of files counts queried)
  pub status_is : status ≡ login_status (audit_status (is_some fault) counts) queried.sha1s
  pub ends : (entries : List Entry) → Means queried.prints.now entries
      → (texts : Option Register) → AreIndexed order.texts texts
      → EndsBy Knows InputFailed order queried input (answers_but None entries texts) files counts
      before after failed fault

-- an audit of logs by a list that was read from these bytes: it is asked by fingerprints
pub record AuditsLogs (Knows : Fact → Type 0) (InputFailed : Type 0) (order : LoginOrder)
    (bytes : List ℕ) (input : Option (List ℕ)) (before after : Option (List ℕ))
    (failed : Bool) (done : Done) (summary : Option LoginSummary) : Type 0 where
  pub list : ReadList
  pub queried : Queried
  pub is_read : IsReadList order.list.now bytes list
  pub fine : HasNames list bytes None
  pub prints : (entries : List Entry) → Means list.revocations entries
      → Means queried.prints.now (printed entries)
  pub sha1s : queried.sha1s ≡ length list.revocations.sha1s
  pub stated : queried.stated ≡ stated_by list.header
  pub sha256 : queried.sha256 ≡ sha256_if (is_hashed order.shown) bytes
  pub ends : EndsMeant Knows InputFailed order queried input before after failed summary
      done.status done.fault

-- The end of an audit of logs by a list with these bytes. Where none is made nothing is printed.
abbrev pub EndsLogins : (Fact → Type 0) → (InputFailed : Type 0) → LoginOrder → (bytes : List ℕ)
    → (input : Option (List ℕ)) → (before after : Option (List ℕ)) → Bool → LoginsEnd → Type 0
EndsLogins Knows InputFailed order bytes input before after failed (ends.Ended done summary) =
    AuditsLogs Knows InputFailed order bytes input before after failed done summary
EndsLogins Knows InputFailed order bytes input before after failed (ends.Incomparable why) =
    (list : ReadList)
    × (IsReadList order.list.now bytes list × (HasNames list bytes (Some why)
    × ((after ≡ before) × (failed ≡ false))))
EndsLogins Knows InputFailed order bytes input before after failed (ends.Refused stop) =
    (IsListFault order.list.now bytes stop ⊎ (stop ≡ run_fault_of order.list.now NoMemory))
    × ((after ≡ before) × (failed ≡ false))
