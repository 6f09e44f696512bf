-- The keys of a file, and where it stops.
use Rattle.std.specs.Prelude.{◌≡◌, ℕ, ◌+◌, if◌then◌else◌, List, [], ◌∷◌}
use Rattle.std.specs.Prelude.{◌++◌, Option, Some, None, Result, Ok, Err}
use Rattle.std.specs.List.{slice_split}
use Rattle.std.specs.Option.{option_to_list}
use Rattle.key_text.specs.KeyFile.{has_key}
use Rattle.key_text.specs.Armour.{begins_container}
use Rattle.key_text.specs.ContainerReading.{Opened, private_at}
use Rattle.key_text.specs.LineReading.{KeyLine, content, line_at}
use Rattle.key_text.specs.declared.line_fault.LineFault.{LineFault}
use Rattle.key_text.specs.declared.private_fault.PrivateFault.{PrivateFault}
use Rattle.ssh_cert.specs.declared.subject_fault.SubjectFault.{SubjectFault}
use Rattle.run_faults.specs.declared.cause.Cause.{Cause}
use Rattle.run_faults.specs.declared.cause.Cause.TheVariants as causes
use Rattle.keyed_lines.specs.declared.key_cause.KeyCause.TheVariants as keys
use Rattle.run_faults.specs.declared.file_fault.FileFault.{FileFault}
use Rattle.key_text.specs.Lines.{is_newline}
use Rattle.run_faults.specs.RunFault.{RunFault, EndedBy, ByOutput, ByMemory, ByInput, ended_by}
use Rattle.run_faults.specs.RunFault.{run_fault_of}

-- a file's name, and its bytes or why there are none
pub record Named : Type 0 where
  pub name : List ℕ
  pub content : Result (List ℕ) FileFault

-- a fault of a line
abbrev pub run_fault_at : List ℕ → ℕ → Cause → RunFault
run_fault_at name number cause = record { name = name; line = Some number; cause = cause }

-- A key in a file: the file's name, the number of the line (a container has none), and the content
-- of the line or the container.
pub record FileKey : Type 0 where
  pub name : List ℕ
  pub number : Option ℕ
  pub line : KeyLine

abbrev pub file_key_of : List ℕ → Option ℕ → KeyLine → FileKey
file_key_of name number line = record { name = name; number = number; line = line }

-- the content of a container, like that of a line without a type word
abbrev pub held_by : Opened → KeyLine
held_by opened = content [] opened.blob opened.comment

-- the key of a line that has one, or why the file stops there
abbrev pub key_of_line : List ℕ → ℕ → Result KeyLine LineFault → Result FileKey RunFault
key_of_line name number (Err fault) = Err (run_fault_at name number (causes.Key (keys.Line fault)))
key_of_line name number (Ok line) = Ok (file_key_of name (Some number) line)

abbrev pub key_of_container : List ℕ → Result Opened PrivateFault → Result FileKey RunFault
key_of_container name (Err fault) = Err (run_fault_of name (causes.Private fault))
key_of_container name (Ok opened) = Ok (file_key_of name None (held_by opened))

-- the key of a line with its number, if the line has one
unfoldable pub key_in : List ℕ → ℕ → List ℕ → Option (Result FileKey RunFault)
key_in name number line =
    if has_key line then Some (key_of_line name number (line_at line)) else None

-- the keys of lines, of which the first has this number
abbrev pub keys_from : List ℕ → ℕ → List (List ℕ) → List (Result FileKey RunFault)
keys_from name number [] = []
keys_from name number (line ∷ lines) =
    option_to_list (key_in name number line) ++ keys_from name (number + 1) lines

-- the keys of a file's text
abbrev pub text_keys : List ℕ → List ℕ → List (Result FileKey RunFault)
text_keys name text =
    if begins_container text then key_of_container name (private_at text) ∷ []
    else keys_from name 1 (slice_split is_newline text)

abbrev pub content_keys : List ℕ → Result (List ℕ) FileFault → List (Result FileKey RunFault)
content_keys name (Err fault) = Err (run_fault_of name (causes.File fault)) ∷ []
content_keys name (Ok text) = text_keys name text

-- The keys of a file in order. Whatever follows a fault is ignored.
unfoldable pub keys_of : Named → List (Result FileKey RunFault)
keys_of file = content_keys file.name file.content

-- the name of the file
abbrev pub file_name : Result FileKey RunFault → List ℕ
file_name (Ok key) = key.name
file_name (Err stop) = stop.name

-- The next key was not returned: a fault stops the file there, or an allocation failed.
abbrev pub IsRefused : EndedBy → Result FileKey RunFault → RunFault → Type 0
IsRefused ByInput next stop = next ≡ Err stop
IsRefused ByMemory next stop = stop ≡ run_fault_of (file_name next) causes.NoMemory
IsRefused (ByOutput count) next stop = ⊥

abbrev pub GivesKey : Result FileKey RunFault → Result FileKey RunFault → Type 0
GivesKey next (Ok key) = next ≡ Ok key
GivesKey next (Err stop) = IsRefused (ended_by stop.cause) next stop

-- The next of the keys left was returned or is faulty, or no key was left.
abbrev pub GivesNext : List (Result FileKey RunFault) → Option (Result FileKey RunFault)
    → List (Result FileKey RunFault) → Type 0
GivesNext left None later = (left ≡ []) × (later ≡ [])
GivesNext left (Some given) later =
    (next : Result FileKey RunFault) × ((left ≡ next ∷ later) × GivesKey next given)

-- a fault of a key's blob
abbrev pub run_fault_in : FileKey → SubjectFault → RunFault
run_fault_in key fault =
    record { name = key.name; line = key.number; cause = causes.Key (keys.Subject fault) }
