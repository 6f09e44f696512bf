-- A run over key files: its answer for each key, and where it stops.
use Rattle.std.specs.Prelude.{◌≡◌, ℕ, ◌||◌, Bool, true, false, List, [], ◌∷◌, ◌++◌, Option, Some}
use Rattle.std.specs.Prelude.{None, Result, Ok, Err, map, option_map}
use Rattle.std.specs.List.{flat_map}
use Rattle.ssh_key.specs.Key.{PublicKey}
use Rattle.ssh_key.specs.KeyReading.{key_at}
use Rattle.ssh_key.specs.declared.fault.KeyFault.{KeyFault}
use Rattle.key_text.specs.ContainerReading.{Opened}
use Rattle.key_text.specs.LineReading.{KeyLine}
use Rattle.key_text.specs.declared.private_fault.PrivateFault.{PrivateFault}
use Rattle.krl_types.specs.Subject.{Subject}
use Rattle.ssh_cert.specs.SubjectReading.{subject_of}
use Rattle.ssh_cert.specs.declared.subject_fault.SubjectFault.{SubjectFault}
use Rattle.ssh_cert.specs.declared.subject_fault.SubjectFault.TheVariants as subjects
use Rattle.run_output.specs.declared.answer.Answer.{Answer}
use Rattle.run_faults.specs.declared.cause.Cause.TheVariants as causes
use Rattle.run_faults.specs.declared.file_fault.FileFault.{FileFault}
use Rattle.run_faults.specs.Keys.{Named, FileKey, key_of_container, key_in, keys_of, run_fault_in}
use Rattle.run_faults.specs.RunFault.{RunFault, EndedBy, ByOutput, ByMemory, ByInput, ended_by}
use Rattle.run_faults.specs.RunFault.{run_fault_of}

-- A step of a run. It has the name of the file or of the list that it is about.
pub data Item : Type 0 where
  -- an answer is printed
  Answered : List ℕ → Answer → Item
  -- this was read, and has no answer
  Passed : List ℕ → Item
  -- the run ends here
  Stopped : RunFault → Item

-- the name of the file or list of the item
abbrev pub name_of : Item → List ℕ
name_of (Answered name answer) = name
name_of (Passed name) = name
name_of (Stopped stop) = stop.name

-- How a run answers.
pub record Answering : Type 0 where
  -- The answer for a key, or none, given the name of the file, the number of the line (a container
  -- has none), the content of the line, the subject of its blob, and the plain key.
  pub say : List ℕ → Option ℕ → KeyLine → Subject → PublicKey → Option Answer
  -- the fault of a file that has no answer
  pub unanswered : FileFault

abbrev pub said : List ℕ → Option Answer → Item
said name None = Passed name
said name (Some answer) = Answered name answer

-- The plain key of a subject can always be read.
abbrev pub key_item : Answering → FileKey → Subject → Result PublicKey KeyFault → Item
key_item answer key asked (Err fault) = Stopped (run_fault_in key (subjects.Key fault))
key_item answer key asked (Ok plain) =
    said key.name (answer.say key.name key.number key.line asked plain)

abbrev pub subject_item : Answering → FileKey → Result Subject SubjectFault → Item
subject_item answer key (Err fault) = Stopped (run_fault_in key fault)
subject_item answer key (Ok asked) = key_item answer key asked (key_at asked.plain)

abbrev pub file_key_item : Answering → Result FileKey RunFault → Item
file_key_item answer (Err stop) = Stopped stop
file_key_item answer (Ok key) = subject_item answer key (subject_of key.line.blob)

-- the item of a line with its number: none if the line has no key
unfoldable pub item_of : Answering → List ℕ → ℕ → List ℕ → Option Item
item_of answer name number line = option_map (file_key_item answer) (key_in name number line)

-- the item of a container
abbrev pub container_item : Answering → List ℕ → Result Opened PrivateFault → Item
container_item answer name read = file_key_item answer (key_of_container name read)

-- there is an answer, or a fault ends the run
abbrev pub is_answered : List Item → Bool
is_answered [] = false
is_answered (Answered name answer ∷ items) = true
is_answered (Passed name ∷ items) = is_answered items
is_answered (Stopped stop ∷ items) = true

-- a file without an answer ends the run
abbrev pub unanswered_of : Answering → List ℕ → Bool → List Item
unanswered_of answer name true = []
unanswered_of answer name false = Stopped (run_fault_of name (causes.File answer.unanswered)) ∷ []

abbrev pub or_unanswered : Answering → List ℕ → List Item → List Item
or_unanswered answer name items = items ++ unanswered_of answer name (is_answered items)

-- each key of a file is answered
unfoldable pub file_items : Answering → Named → List Item
file_items answer file = or_unanswered answer file.name (map (file_key_item answer) (keys_of file))

unfoldable pub files_items : Answering → List Named → List Item
files_items answer files = flat_map (file_items answer) files

-- The outcome of a run: its text, whether some line reports REVOKED, and why it stopped early.
pub record RunOutcome : Type 0 where
  pub text : List ℕ
  pub revoked : Bool
  pub stop : Option RunFault

-- an answer, followed by the rest of a run
abbrev pub before : Answer → RunOutcome → RunOutcome
before answer rest =
    record {
      text = answer.text ++ rest.text;
      revoked = answer.revoked || rest.revoked;
      stop = rest.stop;
    }

-- the run's first fault ends it
abbrev pub outcome_of : List Item → RunOutcome
outcome_of [] = record { text = []; revoked = false; stop = None }
outcome_of (Answered name answer ∷ items) = before answer (outcome_of items)
outcome_of (Passed name ∷ items) = outcome_of items
outcome_of (Stopped stop ∷ items) = record { text = []; revoked = false; stop = Some stop }

-- the exit status of a run
abbrev pub status_of : Bool → Bool → ℕ
status_of true revoked = 255
status_of false true = 1
status_of false false = 0

-- The item of a key was not given: it stops the run, or an allocation failed.
abbrev pub IsWithheld : EndedBy → Item → RunFault → Type 0
IsWithheld ByInput item stop = item ≡ Stopped stop
IsWithheld ByMemory item stop = stop ≡ run_fault_of (name_of item) causes.NoMemory
IsWithheld (ByOutput count) item stop = ⊥

-- The answer for a key of a file with this name is its item, unless an allocation failed.
abbrev pub GivesAnswer : Item → List ℕ → Result (Option Answer) RunFault → Type 0
GivesAnswer item name (Ok answer) = item ≡ said name answer
GivesAnswer item name (Err stop) = IsWithheld (ended_by stop.cause) item stop

-- a line is printed about the file or the list with this name
abbrev pub said_of : List ℕ → List ℕ → Item
said_of name text = Answered name (record { text = text; revoked = false })
