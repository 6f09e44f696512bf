-- A run, by the stored entries of a list or by the fault of a refused list.
use Rattle.krl_runs.proofs.Common.{[], ◌++◌, ◌∙◌, ◌∷◌, ◌≡◌, all_said, answer_of, AnswersAbout, ap}
use Rattle.krl_runs.proofs.Common.{append_assoc, ask, ask_by, asked_run_of, Asks, before, Bool}
use Rattle.krl_runs.proofs.Common.{carries_more, carries_passed, carries_then, carries_withheld}
use Rattle.krl_runs.proofs.Common.{dump_text, entries_of, Err, false, files_items, HasEntries}
use Rattle.krl_runs.proofs.Common.{Header, IsHeld, IsOrderly, Item, Known, known_lines, known_of}
use Rattle.krl_runs.proofs.Common.{krl_cause, List, Named, None, Ok, Option, outcome_of, Passed}
use Rattle.krl_runs.proofs.Common.{query_run_of, refl, Result, Revocations, revokes, run_fault_of}
use Rattle.krl_runs.proofs.Common.{RunFault, RunOutcome, Some, Stopped, Subject, subst, sym, ℕ}
use Rattle.std.specs.List.{concat}
use Rattle.std.proofs.lemmas.Bool.{false≢true}
use Rattle.krl_entries.proofs.RevokedTests.{revokes_meant}
use Rattle.krl_entries.specs.Canonical.{entries_in}
use Rattle.krl_types.specs.Entry.{Entry}
use Rattle.krl_entries.proofs.OwnEntries.{means_itself}
use Rattle.krl_entries.proofs.ScopedMeaning.{means_within}
use Rattle.krl_format.specs.Front.{IsFirstKrlFault}
use Rattle.krl_core.specs.Reading.{HoldsInScope, IsList, IsListAs, IsResultOf, OfHeader}
use Rattle.krl_format.specs.Faults.{Says}
use Rattle.krl_entries.proofs.ReasonTests.{meant_tested}
use Rattle.krl_queries.proofs.FoundReasons.{found_tested}
use Rattle.krl_types.specs.declared.krl_fault.KrlFault.{KrlFault}
use Rattle.run_output.specs.Carries.{Carries}
use Rattle.run_output.specs.Printer.{Printer}
use Rattle.run_faults.specs.declared.cause.Cause.TheVariants as causes
use Rattle.krl_entries.specs.Reasons.{is_revoked as is_named}
use Rattle.krl_types.specs.declared.krl_fault.KrlFault.TheVariants as faults

-- A list that was read is stored.
pub held : (text : List ℕ) (header : Header) (contents : Revocations)
    → IsList text header contents → IsFirstKrlFault text None → IsHeld text (known_of header contents)
held text header contents list none = record {
  list = list;
  no_fault = none;
  answers = λ asked. revokes_meant contents (entries_of list.sections) list.holds.means asked;
}

-- The contents are printed, and the files are answered by the stored entries.
pub read_run : {A : Type 0} (name : List ℕ) (files : List Named) (known : Known) (result : Result A RunFault) (old mid new : Printer)
    → Carries (all_said name (known_lines known)) (Ok (tt {0})) old mid → Carries (files_items (ask known.contents) files) result mid new
    → Carries (query_run_of name (Ok known) files) result old new
unfolding query_run_of
read_run name files known result old mid new first second =
    carries_then (Passed name ∷ []) (all_said name (known_lines known) ++ files_items (ask known.contents) files) tt result old old new (carries_passed (tt {0}) name old)
    (carries_then (all_said name (known_lines known)) (files_items (ask known.contents) files) tt result old mid new first second)

-- The run ended within the contents.
pub dump_stops : {A B : Type 0} (name : List ℕ) (files : List Named) (known : Known) (stop : RunFault) (old new : Printer)
    → Carries {A = A} (all_said name (known_lines known)) (Err stop) old new → Carries {A = B} (query_run_of name (Ok known) files) (Err stop) old new
unfolding query_run_of
dump_stops {A} {B} name files known stop old new first =
    carries_then (Passed name ∷ []) (all_said name (known_lines known) ++ files_items (ask known.contents) files) tt (Err stop) old old new (carries_passed (tt {0}) name old)
    (carries_more {A = A} {B = B} (all_said name (known_lines known)) (files_items (ask known.contents) files) stop old new first)

-- The run ended before its first line: the list had a fault, or an allocation failed.
pub refused_run : (name : List ℕ) (files : List Named) (fault : KrlFault) (now : Printer)
    → Carries {A = Unit {0}} (query_run_of name (Err fault) files) (Err (run_fault_of name (krl_cause fault))) now now
unfolding query_run_of
refused_run name files faults.NoMemory now = carries_withheld (Stopped (run_fault_of name (krl_cause faults.NoMemory))) (run_fault_of name (krl_cause faults.NoMemory)) now refl
refused_run name files fault now = carries_withheld (Stopped (run_fault_of name (krl_cause fault))) (run_fault_of name (krl_cause fault)) now refl

-- The lines of a list's contents make one text, before the text that follows.
lines_first : (name : List ℕ) (lines : List (List ℕ)) (items : List Item)
    → outcome_of (all_said name lines ++ items) ≡ before (record { text = concat lines; revoked = false }) (outcome_of items)
lines_first name [] items = refl
lines_first name (line ∷ lines) items =
    let rest = outcome_of items in
    let text : line ++ (concat lines ++ rest.text) ≡ (line ++ concat lines) ++ rest.text = sym (append_assoc line (concat lines) rest.text) in
    ap (before (record { text = line; revoked = false })) (lines_first name lines items)
    ∙ ap (λ (t : List ℕ). let o : RunOutcome = record { text = t; revoked = rest.revoked; stop = rest.stop } in o) text

pub dump_first : (name : List ℕ) (known : Known) (files : List Named)
    → outcome_of (query_run_of name (Ok known) files) ≡ before (record { text = dump_text known; revoked = false }) (outcome_of (files_items (ask known.contents) files))
unfolding query_run_of
dump_first name known files = lines_first name (known_lines known) (files_items (ask known.contents) files)

pub nothing_first : (name : List ℕ) (entries : List Entry) (files : List Named)
    → outcome_of (asked_run_of name (Ok entries) files) ≡ outcome_of (files_items (ask_by (is_named entries)) files)
unfolding asked_run_of
nothing_first name entries files = refl

-- ---- a list that was streamed

-- the entries that answer for a list: those of its sections, or its stored entries
pub list_entries : {Holds : List ℕ → Revocations → List Entry → Type 0} {Agrees : List Entry → Type 0} (left : Option (List ℕ)) (held : Revocations)
    → ((text : List ℕ) → left ≡ Some text → (header : Header) × IsListAs Holds text header held) → ((text : List ℕ) → left ≡ Some text → IsFirstKrlFault text None)
    → Agrees (entries_in held) → ((text : List ℕ) (entries : List Entry) → Holds text held entries → Agrees entries)
    → (entries : List Entry) × ((text : List ℕ) → left ≡ Some text → HasEntries text entries) × Agrees entries
list_entries None held list none own agree = (entries_in held, λ text e. absurd (cc), own)
list_entries (Some text) held list none own agree =
    let header = (list text refl).0 in
    let is = (list text refl).1 in
    let entries = entries_of is.sections in
    let has : HasEntries text entries = record {
      header = header;
      sections = is.sections;
      spelled = is.spelled;
      within = is.within;
      no_fault = none text refl;
      entries_are = refl;
    } in
    (entries, λ other e. let same : text ≡ other = cc in subst (λ (t : List ℕ). HasEntries t entries) same has, agree text entries is.holds)

-- ---- a list of which all is stored

-- the stored entries answer for each key
pub held_list : (left : Option (List ℕ)) (held : Revocations) (header : Header) → IsOrderly held
    → ((text : List ℕ) → left ≡ Some text → IsList text header held) → ((text : List ℕ) → left ≡ Some text → IsFirstKrlFault text None)
    → (entries : List Entry) × ((text : List ℕ) → left ≡ Some text → HasEntries text entries) × ((asked : Subject) → revokes held asked ≡ is_named entries asked)
held_list left held header orderly list none =
    list_entries left held (λ text e. (header, list text e)) none (meant_tested held (entries_in held) (means_itself held orderly)) (λ text entries holds. meant_tested held entries holds.means)

-- ---- a list of which only the answers to the queries are stored

-- the stored entries answer for the keys of the queries
pub streamed_list : (left : Option (List ℕ)) (topics found : Revocations) (kept : Header) → IsOrderly found
    → ((text : List ℕ) → left ≡ Some text → OfHeader (Some topics) kept (λ header. IsListAs (HoldsInScope (Some topics)) text header found)) → ((text : List ℕ) → left ≡ Some text → IsFirstKrlFault text None)
    → (entries : List Entry) × ((text : List ℕ) → left ≡ Some text → HasEntries text entries) × ((asked : Subject) → Asks topics asked → revokes found asked ≡ is_named entries asked)
streamed_list left topics found kept orderly list none =
    list_entries left found (λ text e. ((list text e).0, (list text e).2)) none
    (found_tested topics found (entries_in found) (means_within (Some topics) found (entries_in found) (means_itself found orderly)))
    (λ text entries holds. found_tested topics found entries holds.means)

-- The entries answer for all subjects for which a test agrees.
pub entries_answer : (Expected : Subject → Type 0) (held : Revocations) (test : Subject → Bool) → ((asked : Subject) → Expected asked → revokes held asked ≡ test asked)
    → AnswersAbout Expected held (ask_by test)
entries_answer Expected held test same = record {
  say = λ name number line asked key expected. ap (λ (b : Bool). Some (answer_of name line b)) (sym (same asked expected));
  unanswered = refl;
}

pub asked_run : {A : Type 0} (name : List ℕ) (files : List Named) (entries : List Entry) (result : Result A RunFault) (old new : Printer)
    → Carries (files_items (ask_by (is_named entries)) files) result old new → Carries (asked_run_of name (Ok entries) files) result old new
unfolding asked_run_of
asked_run name files entries result old new rest =
    carries_then (Passed name ∷ []) (files_items (ask_by (is_named entries)) files) tt result old old new (carries_passed (tt {0}) name old) rest

pub asked_refused : (name : List ℕ) (files : List Named) (fault : KrlFault) (now : Printer)
    → Carries {A = Unit {0}} (asked_run_of name (Err fault) files) (Err (run_fault_of name (krl_cause fault))) now now
unfolding asked_run_of
asked_refused name files faults.NoMemory now = carries_withheld (Stopped (run_fault_of name (krl_cause faults.NoMemory))) (run_fault_of name (krl_cause faults.NoMemory)) now refl
asked_refused name files fault now = carries_withheld (Stopped (run_fault_of name (krl_cause fault))) (run_fault_of name (krl_cause fault)) now refl

-- an allocation failed before the answer for the first key
pub asked_ran_out : (name : List ℕ) (files : List Named) (entries : List Entry) (now : Printer)
    → Carries {A = Unit {0}} (asked_run_of name (Ok entries) files) (Err (run_fault_of name causes.NoMemory)) now now
unfolding asked_run_of
asked_ran_out name files entries now =
    carries_more {A = Unit {0}} {B = Unit {0}} (Passed name ∷ []) (files_items (ask_by (is_named entries)) files) (run_fault_of name causes.NoMemory) now now
    (carries_withheld (Passed name) (run_fault_of name causes.NoMemory) now refl)

-- an allocation failed before the list was read to its end
pub ran_out_run : (name : List ℕ) (files : List Named) (before left : Option (List ℕ)) (failed : Bool) (now : Printer) → failed ≡ false
    → ((text : List ℕ) → before ≡ Some text → Says faults.NoMemory text failed left)
    → (outcome : Result (List Entry) KrlFault) × IsResultOf HasEntries before outcome failed left
    × Carries {A = Unit {0}} (asked_run_of name outcome files) (Err (run_fault_of name causes.NoMemory)) now now
ran_out_run name files before left failed now works says = (
  Err faults.NoMemory,
  record { failure = (λ no. absurd cc, λ was. absurd (false≢true (sym works ∙ was))); read = says },
  asked_refused name files faults.NoMemory now,
)
