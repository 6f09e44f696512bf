-- Asking a list about keys (ssh-keygen(1), KEY REVOCATION LISTS).
use Rattle.std.specs.Prelude.{◌≡◌, ◌↔◌, ◌≤◌, length, ℕ, ⊤, Bool, true, false, List, [], ◌∷◌, ◌++◌}
use Rattle.std.specs.Prelude.{Option, None, Some, Result, Ok, Err, IsTrue, codes}
use Rattle.krl_entries.specs.Revocations.{Revocations}
use Rattle.krl_format.specs.Entries.{entries_of}
use Rattle.krl_format.specs.Front.{IsFirstKrlFault, limit}
use Rattle.krl_format.specs.Krl.{SpelledSection, Spells}
use Rattle.krl_queries.specs.Questions.{Asks}
use Rattle.krl_types.specs.Entry.{Entry}
use Rattle.krl_entries.specs.Reasons.{is_revoked, revokes}
use Rattle.krl_format.specs.declared.header.Header.{Header}
use Rattle.ssh_key.specs.Key.{PublicKey}
use Rattle.krl_core.specs.Reading.{IsList, IsReadAs, IsResultOf}
use Rattle.krl_entries.specs.Revoked.{Revoked}
use Rattle.krl_types.specs.declared.krl_fault.KrlFault.{KrlFault}
use Rattle.krl_types.specs.Subject.{Subject}
use Rattle.key_text.specs.LineReading.{KeyLine}
use Rattle.run_output.specs.declared.answer.Answer.{Answer}
use Rattle.run_faults.specs.declared.file_fault.FileFault.TheVariants as files
use Rattle.ssh_cert.specs.Escape.{escaped}
use Rattle.krl_runs.specs.Contents.{Known, all_said, known_lines}
use Rattle.krl_runs.specs.declared.query.Query.{Query}
use Rattle.krl_runs.specs.declared.query.Query.TheVariants.{Stored, Streamed}
use Rattle.run_faults.specs.Keys.{Named}
use Rattle.run_output.specs.Run.{Answering, Item, Passed, Stopped, files_items}
use Rattle.run_faults.specs.RunFault.{krl_cause, run_fault_of}

-- a comment after a file's name, if there is one
abbrev pub comment_part : List ℕ → List ℕ
comment_part [] = []
comment_part (byte ∷ bytes) = codes " (" ++ (escaped (byte ∷ bytes) ++ codes ")")

abbrev pub verdict : Bool → List ℕ
verdict true = codes ": REVOKED"
verdict false = codes ": ok"

abbrev pub query_line : List ℕ → List ℕ → Bool → List ℕ
query_line name comment is_revoked =
    escaped name ++ (comment_part comment ++ (verdict is_revoked ++ 10 ∷ []))

-- the answer for a key, by whether it is revoked
abbrev pub answer_of : List ℕ → KeyLine → Bool → Answer
answer_of name line is_revoked =
    record { text = query_line name line.comment is_revoked; revoked = is_revoked }

-- each key is answered for, by a test of its query
abbrev pub ask_by : (Subject → Bool) → Answering
ask_by test = record {
  say = λ name number line asked key. Some (answer_of name line (test asked));
  unanswered = files.NoKeys;
}

-- by the stored entries of a list
abbrev pub ask : Revocations → Answering
ask contents = ask_by (revokes contents)

-- These subjects are answered for by these entries.
pub record AnswersAbout (Expected : Subject → Type 0) (entries : Revocations)
    (answering : Answering) : Type 0 where
  pub say : (name : List ℕ) (number : Option ℕ) (line : KeyLine) (asked : Subject) (key : PublicKey)
      → Expected asked → answering.say name number line asked key
      ≡ Some (answer_of name line (revokes entries asked))
  pub unanswered : answering.unanswered ≡ files.NoKeys

-- the subjects that a query answers for: all of a list that is stored, and the topics of one that
-- was streamed
abbrev pub IsFor : Query → Subject → Type 0
IsFor (Stored list) asked = ⊤
IsFor (Streamed questions) asked = Asks questions.now.topics asked

-- the entries by which it answers
abbrev pub entries_for : Query → Revocations
entries_for (Stored list) = list.now
entries_for (Streamed questions) = questions.now.found

-- The text is a list without a fault, and these are the entries that its sections have.
pub record HasEntries (text : List ℕ) (entries : List Entry) : Type 0 where
  pub header : Header
  pub sections : List SpelledSection
  pub spelled : Spells text header sections
  pub within : length text ≤ limit
  pub no_fault : IsFirstKrlFault text None
  pub entries_are : entries ≡ entries_of sections

-- The text is a list without a fault, these are its known contents, and the answers are exactly
-- those of the entries of its sections.
pub record IsHeld (text : List ℕ) (known : Known) : Type 0 where
  pub list : IsList text known.header known.contents
  pub no_fault : IsFirstKrlFault text None
  pub answers : (asked : Subject)
      → IsTrue (revokes known.contents asked) ↔ Revoked (entries_of list.sections) asked

-- the result of reading the text of a list
abbrev pub IsRead : List ℕ → Result Known KrlFault → Bool → Option (List ℕ) → Type 0
IsRead = IsReadAs IsHeld

-- This is the result of reading a list, by its reader before and after it.
abbrev pub IsListRead : Option (List ℕ) → Result Known KrlFault → Bool → Option (List ℕ) → Type 0
IsListRead = IsResultOf IsHeld

-- The list's first fault ends the run immediately. Otherwise its contents are printed, and then
-- each key of each file gives one line, up to the first fault.
unfoldable pub query_run_of : List ℕ → Result Known KrlFault → List Named → List Item
query_run_of name (Err fault) files = Stopped (run_fault_of name (krl_cause fault)) ∷ []
query_run_of name (Ok known) files =
    Passed name ∷ (all_said name (known_lines known) ++ files_items (ask known.contents) files)

-- The list's first fault ends the run immediately. Otherwise each key of each file gives one line,
-- up to the first fault.
unfoldable pub asked_run_of : List ℕ → Result (List Entry) KrlFault → List Named → List Item
asked_run_of name (Err fault) files = Stopped (run_fault_of name (krl_cause fault)) ∷ []
asked_run_of name (Ok entries) files =
    Passed name ∷ files_items (ask_by (is_revoked entries)) files

-- The lines of the run and the place where it stops: by the list's contents if these are printed,
-- otherwise by the answers alone.
pub data IsRun (name : List ℕ) (files : List Named) (before : Option (List ℕ)) (dump failed : Bool)
    (left : Option (List ℕ)) (items : List Item) : Type 0 where
  dumped : (outcome : Result Known KrlFault) → dump ≡ true
      → IsListRead before outcome failed left → items ≡ query_run_of name outcome files
      → IsRun name files before dump failed left items
  asked : (outcome : Result (List Entry) KrlFault) → dump ≡ false
      → IsResultOf HasEntries before outcome failed left → items ≡ asked_run_of name outcome files
      → IsRun name files before dump failed left items
