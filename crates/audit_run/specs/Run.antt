-- The whole audit, from a list that was read and what a tree states to the text and the status.
use Rattle.std.specs.Prelude.{◌≡◌, ℕ, ◌<◌, Bool, true, false, List, [], ◌∷◌, ◌++◌, codes}
use Rattle.std.specs.Prelude.{Option, Some, None, is_some, not, Result, Ok, Err}
use Rattle.std.specs.Borrow.{Bor}
use Rattle.sha2.specs.Sha256.{sha256}
use Rattle.json_lines.specs.Field.{json_line}
use Rattle.run_faults.specs.RunFault.{RunFault, output_run_fault, run_fault_of}
use Rattle.run_faults.specs.declared.cause.Cause.TheVariants.{File, NoMemory}
use Rattle.run_faults.specs.declared.file_fault.FileFault.TheVariants.{Read}
use Rattle.run_output.specs.Carries.{Reaches}
use Rattle.run_output.specs.Printer.{HasSaid}
use Rattle.run_output.specs.Run.{Item, Passed, Stopped, said_of}
use Rattle.krl_types.specs.Entry.{Entry}
use Rattle.krl_types.specs.Subject.{Subject}
use Rattle.krl_entries.specs.Revocations.{Means}
use Rattle.audit_text.specs.Answer.{Answer}
use Rattle.audit_text.specs.Place.{label_now}
use Rattle.krl_audit.specs.Audit.{AreIndexed, EndsAudit, JudgesAs, MeanCanaries, answers_but}
use Rattle.krl_audit.specs.Done.{done_object}
use Rattle.audit_run.specs.declared.summary.Summary.{Summary}
use Rattle.any_list.specs.List.{IsListFault, IsReadList, stated_by}
use Rattle.any_list.specs.declared.list.List.{List as ReadList}
use Rattle.run_output.specs.declared.done.Done.{Done}
use Rattle.audit_text.specs.declared.format.Format.{Format}
use Rattle.audit_text.specs.declared.format.Format.TheVariants as formats
use Rattle.krl_audit.specs.declared.judge.Shown.{Shown}
use Rattle.krl_openssh.specs.Comparable.{IsIncomparable}
use Rattle.krl_openssh.specs.declared.authorities.Incomparable.{Incomparable}
use Rattle.krl_format.specs.Krl.{SpelledSection, Spells}
use Rattle.text_index.specs.NamingLines.{Register}
use Rattle.krl_format.specs.declared.header.Header.{Header}
use Rattle.audit_run.specs.Fact.{Fact}
use Rattle.audit_run.specs.Named.{AreNamed, Each, IsBroken, IsOnNames}
use Rattle.audit_run.specs.Reading.{SomeFailed, left_in}
use Rattle.audit_run.specs.Sought.{IsSought}
use Rattle.audit_run.specs.Visits.{AreQuiet, AreTimely, State, Tally, Visit, all_tallied}
use Rattle.audit_run.specs.Visits.{nothing_tallied}
use Rattle.audit_run.specs.Visits.{visits_items}
use Rattle.audit_run.specs.declared.run.Audited.{Audited}
use Rattle.audit_run.specs.declared.run.Audited.TheVariants as ends
use Rattle.audit_run.specs.declared.order.Order.{Order}
use Rattle.audit_run.specs.declared.run.Queried.{Queried}
use Rattle.audit_run.specs.declared.search.Search.{Search}
use Rattle.audit_run.specs.declared.stop.Stop.{Stop}
use Rattle.audit_run.specs.declared.stop.Stop.TheVariants as stops
use Rattle.sshd_files.specs.declared.files.SshdFile.{SshdFile}

-- ---- what is audited

-- The readers that are given: the bytes of names of files, if there is a reader of names, and those
-- of standard input, as far as the readers know them; and that one of them has failed.
pub record Readers : Type 1 where
  pub names : Option (Option (List ℕ))
  pub input : Option (List ℕ)
  pub NamesFailed : Type 0
  pub InputFailed : Type 0

abbrev pub readers_of : {N I : Type 0} → (N → Option (List ℕ)) → (N → Bool) → Option N
    → (I → Option (List ℕ)) → (I → Bool) → I → Readers
readers_of names_left names_failed names input_left input_failed input = record {
  names = left_in names_left names;
  input = input_left input;
  NamesFailed = SomeFailed names_failed;
  InputFailed = SomeFailed input_failed;
}

-- First what the names lead to that a reader gives, and then what those lead to that the command
-- names.
pub data AreGiven (Knows : Fact → Type 0) (search : Search) (whole : Bool) (readers : Readers)
    (paths : List (Bor (List ℕ))) (visits : List Visit) : Type 0 where
  no_list : readers.names ≡ None
      → AreNamed Knows readers.InputFailed search whole (Some readers.input) paths visits
      → AreGiven Knows search whole readers paths visits
  in_names : (left : Option (List ℕ)) → readers.names ≡ Some left → whole ≡ false
      → IsOnNames Knows search false left visits → AreGiven Knows search whole readers paths visits
  after_names : (left : Option (List ℕ)) (first rest : List Visit) → readers.names ≡ Some left
      → IsOnNames Knows search true left first
      → AreNamed Knows readers.InputFailed search whole (Some readers.input) paths rest
      → visits ≡ first ++ rest → AreGiven Knows search whole readers paths visits

-- A reader gives names, which cannot be read to their end, since it failed or has more bytes than
-- are read: what the names before lead to.
pub record AreUnread (Knows : Fact → Type 0) (search : Search) (readers : Readers)
    (visits : List Visit) : Type 0 where
  pub left : Option (List ℕ)
  pub given : readers.names ≡ Some left
  pub broken : IsBroken readers.NamesFailed left
  pub before : IsOnNames Knows search false left visits

-- all of what is given, or the names of a reader that cannot be read to their end; or the audit was
-- stopped
abbrev pub IsGiven : (Fact → Type 0) → Search → Readers → List (Bor (List ℕ))
    → Result Bool Stop → List Visit → Type 0
IsGiven Knows search readers paths (Ok true) visits =
    AreGiven Knows search true readers paths visits
IsGiven Knows search readers paths (Ok false) visits = AreUnread Knows search readers visits
IsGiven Knows search readers paths (Err stop) visits =
    AreGiven Knows search false readers paths visits

-- First the files that sshd reads, and then what is given.
pub data AreMet (Knows : Fact → Type 0) (search : Search) (whole : Bool)
    (sought : List SshdFile) (readers : Readers) (paths : List (Bor (List ℕ)))
    (visits : List Visit) : Type 0 where
  in_sought : whole ≡ false → Each (IsSought Knows) false sought visits
      → AreMet Knows search whole sought readers paths visits
  after_sought : (first rest : List Visit) → Each (IsSought Knows) true sought first
      → AreGiven Knows search whole readers paths rest → visits ≡ first ++ rest
      → AreMet Knows search whole sought readers paths visits

-- The files that sshd reads, and then names that cannot be read to their end.
pub record AreCutOff (Knows : Fact → Type 0) (search : Search) (sought : List SshdFile)
    (readers : Readers) (visits : List Visit) : Type 0 where
  pub first : List Visit
  pub rest : List Visit
  pub before : Each (IsSought Knows) true sought first
  pub unread : AreUnread Knows search readers rest
  pub visits_are : visits ≡ first ++ rest

-- all, or names that cannot be read to their end; or the audit was stopped
abbrev pub IsMet : (Fact → Type 0) → Search → List SshdFile → Readers
    → List (Bor (List ℕ)) → Result Bool Stop → List Visit → Type 0
IsMet Knows search sought readers paths (Ok true) visits =
    AreMet Knows search true sought readers paths visits
IsMet Knows search sought readers paths (Ok false) visits =
    AreCutOff Knows search sought readers visits
IsMet Knows search sought readers paths (Err stop) visits =
    AreMet Knows search false sought readers paths visits

-- ---- what is printed

-- the last object, which has the SHA-256 of the list
abbrev pub last_if : Option (List ℕ) → (label : Option (List ℕ)) → (name : List ℕ) → Queried
    → Tally → List Item
last_if None label name queried tally = []
last_if (Some sha256) label name queried tally =
    said_of name (json_line (done_object label tally.files.counts tally.counts (record {
      name = record { ref_ptr = (0, 0); now = name };
      stated = queried.stated;
      sha256 = sha256;
    }))) ∷ []

abbrev pub last_items : (label : Option (List ℕ)) → (name : List ℕ) → Queried → Tally → List Item
last_items label name queried tally = last_if queried.sha256 label name queried tally

-- the fault of a reader of names that failed
abbrev pub names_fault : (names_from : List ℕ) → RunFault
names_fault from = run_fault_of from (File Read)

-- the fault of an audit that was stopped, if it is one
abbrev pub stop_fault : Stop → Option RunFault
stop_fault stops.Revoked = None
stop_fault stops.NoMemory = Some (run_fault_of (codes "memory") NoMemory)
stop_fault (stops.Lost count) = Some (output_run_fault count)

-- The items that an audit of this prints, by its end: all of them, and the last object; those up to
-- the first file with a revoked key, where no finding is asked for; those that were printed when an
-- allocation or the output failed; or, where names are unread, those of the names before, and the
-- fault that ends the audit.
pub data IsRunOf (Unread : Type 0) (order : Order) (items last : List Item) (whole : Bool)
    (tally : Tally) (stop : Option RunFault) (run : List Item) : Type 0 where
  all_audited : whole ≡ true → run ≡ items ++ last
      → IsRunOf Unread order items last whole tally stop run
  ended_at_revoked : order.shown.revoked ≡ false → 0 < tally.counts.revoked → stop ≡ None
      → run ≡ items → IsRunOf Unread order items last whole tally stop run
  ran_out : (said later : List Item) → items ≡ said ++ later
      → stop ≡ Some (run_fault_of (codes "memory") NoMemory)
      → run ≡ said ++ Passed (codes "memory") ∷ []
      → IsRunOf Unread order items last whole tally stop run
  lost : (count : ℕ) → stop ≡ Some (output_run_fault count) → run ≡ items
      → IsRunOf Unread order items last whole tally stop run
  no_names : Unread → whole ≡ false → stop ≡ Some (names_fault order.names_from.now)
      → run ≡ items ++ Stopped (names_fault order.names_from.now) ∷ []
      → IsRunOf Unread order items last whole tally stop run

-- An audit by these answers meets this, with each file once, and prints it. Where no finding is
-- asked for, it ends at the first file with a revoked key.
pub record IsAudit (Knows : Fact → Type 0) (order : Order) (queried : Queried)
    (readers : Readers) (answers : Subject → Answer) (old tally : Tally)
    (stop : Option RunFault) (run : List Item) : Type 0 where
  pub visits : List Visit
  pub whole : Bool
  pub met : AreMet Knows order.search whole order.sought.now readers order.paths.now visits
  pub timely : AreTimely answers old visits
  pub quiet : order.shown.revoked ≡ false
      → AreQuiet answers (not whole) old visits
  pub is_run : IsRunOf (AreCutOff Knows order.search order.sought.now readers visits) order
      (visits_items answers order.shown visits)
      (last_items (label_now order.shown.label) order.list.now queried tally) whole tally stop run
  pub tally_is : stop ≡ None → tally ≡ all_tallied answers old visits

-- All was audited after nothing was printed, or the audit was stopped.
abbrev pub AuditsAll : (Fact → Type 0) → Order → Queried → Readers → Option RunFault → State
    → State → Type 0
AuditsAll Knows order queried readers stop old new =
    (answers : Subject → Answer) (before : Option (List ℕ)) → JudgesAs old.judge answers
    → old.judge.shown ≡ order.shown → HasSaid before [] old.printer
    → (run : List Item)
    × (IsAudit Knows order queried readers answers old.tally new.tally stop run
    × (Reaches before run stop new.printer × (new.printer.writer ≡ old.printer.writer)))

abbrev pub summary_of : Tally → Queried → Summary
summary_of tally queried = record {
  files = tally.files.counts;
  revoked_files = tally.files.revoked;
  counts = tally.counts;
  stated = queried.stated;
}

-- the summary of an audit that no fault stopped
abbrev pub summary_unless : Option RunFault → Summary → Option Summary
summary_unless None summary = Some summary
summary_unless (Some fault) summary = None

-- The end of an audit by what the list, the keys of canaries and the texts mean. One that was
-- stopped has a fault, and no summary.
pub record EndsAuditBy (Knows : Fact → Type 0) (order : Order) (queried : Queried)
    (readers : Readers) (before after : Option (List ℕ)) (failed : Bool)
    (summary : Option Summary) (status : ℕ) (fault : Option RunFault) : Type 0 where
  pub tally : Tally
  pub summary_is : summary ≡ summary_unless fault (summary_of tally queried)
  pub ends : (canaries : Option (List Entry)) → MeanCanaries order.canaries canaries
      → (entries : List Entry) → Means queried.list.now entries
      → (texts : Option Register) → AreIndexed order.texts texts
      → (stop : Option RunFault) × (run : List Item)
      × (IsAudit Knows order queried readers (answers_but canaries entries texts) nothing_tallied
      tally stop run
      × (EndsAudit run tally.counts before after failed status fault
      × (fault ≡ None → stop ≡ None)))

-- ---- the bytes of the list

-- whether the last object is printed, which has the SHA-256 of the list
abbrev pub hashed_if : Format → Bool → Bool
hashed_if formats.Json revoked = revoked
hashed_if formats.Text revoked = false
hashed_if formats.Colour revoked = false

abbrev pub is_hashed : Shown → Bool
is_hashed shown = hashed_if shown.format shown.revoked

-- the SHA-256 of the bytes, if they are to be hashed
abbrev pub sha256_if : Bool → List ℕ → Option (List ℕ)
sha256_if true bytes = Some (sha256 bytes)
sha256_if false bytes = None

-- Whether a list that was read from these bytes is a key revocation list with a certificate
-- authority or a key ID that cannot be compared.
pub data HasNames (list : ReadList) (bytes : List ℕ) (why : Option Incomparable) : Type 0 where
  plain : list.header ≡ None → why ≡ None → HasNames list bytes why
  whole : is_some list.header ≡ true
      → ((header : Header) (sections : List SpelledSection) → Spells bytes header sections
      → IsIncomparable sections why)
      → HasNames list bytes why

-- an audit by a list that was read from these bytes
pub record AuditsRead (Knows : Fact → Type 0) (order : Order) (bytes : List ℕ)
    (readers : Readers) (before after : Option (List ℕ)) (failed : Bool) (done : Done)
    (summary : Option Summary) : Type 0 where
  pub list : ReadList
  pub queried : Queried
  pub is_read : IsReadList order.list.now bytes list
  pub fine : HasNames list bytes None
  pub revocations : queried.list.now ≡ list.revocations
  pub stated : queried.stated ≡ stated_by list.header
  pub sha256 : queried.sha256 ≡ sha256_if (is_hashed order.shown) bytes
  pub ends : EndsAuditBy Knows order queried readers before after failed summary done.status
      done.fault

-- The end of an audit by a list with these bytes. Where no audit is made nothing is printed.
abbrev pub EndsAuditRun : (Fact → Type 0) → Order → (bytes : List ℕ) → Readers
    → (before after : Option (List ℕ)) → Bool → Audited → Type 0
EndsAuditRun Knows order bytes readers before after failed (ends.Ended done summary) =
    AuditsRead Knows order bytes readers before after failed done summary
EndsAuditRun Knows order bytes readers before after failed (ends.Incomparable why) =
    (list : ReadList)
    × (IsReadList order.list.now bytes list × (HasNames list bytes (Some why)
    × ((after ≡ before) × (failed ≡ false))))
EndsAuditRun Knows order bytes readers before after failed (ends.Refused stop) =
    IsListFault order.list.now bytes stop × ((after ≡ before) × (failed ≡ false))
