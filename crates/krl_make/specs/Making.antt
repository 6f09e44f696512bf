-- Making or updating a list (ssh-keygen(1), options -k and -u).
use Rattle.std.specs.Prelude.{◌≡◌, ◌↔◌, ℕ, ◌+◌, ◌*◌, ◌^◌, ◌<◌, ◌≤◌, ◌⊎◌}
use Rattle.std.specs.Prelude.{List, [], ◌∷◌, ◌++◌, length, Option, Some, None}
use Rattle.std.specs.Prelude.{Result, Ok, Err}
use Rattle.std.specs.Option.{ok_or}
use Rattle.ssh_wire.specs.Reading.{◌>>=◌, in_fault}
use Rattle.krl_entries.specs.Revocations.{Revocations, Means, held, nothing}
use Rattle.krl_format.specs.Entries.{entries_of}
use Rattle.krl_types.specs.Entry.{Entry}
use Rattle.krl_format.specs.Front.{IsFirstKrlFault, limit}
use Rattle.krl_format.specs.Krl.{SpelledSection, Spells}
use Rattle.krl_writer.specs.KrlText.{IsKrlText}
use Rattle.krl_core.specs.Reading.{IsList}
use Rattle.krl_entries.specs.Revoked.{Revoked}
use Rattle.krl_format.specs.declared.header.Header.{Header}
use Rattle.krl_types.specs.declared.krl_fault.KrlFault.{KrlFault}
use Rattle.krl_types.specs.declared.krl_fault.KrlFault.TheVariants as faults
use Rattle.krl_types.specs.Subject.{Subject}
use Rattle.ssh_cert.specs.SubjectReading.{subject_of}
use Rattle.krl_job.specs.declared.job.AuthorityOption.{AuthorityOption}
use Rattle.krl_job.specs.declared.job.AuthorityOption.TheVariants.{NotGiven, All, File as FileOf}
use Rattle.krl_make.specs.declared.base.Base.{Base}
use Rattle.list_making.specs.Version.{version_of}
use Rattle.run_faults.specs.declared.file_fault.FileFault.{FileFault}
use Rattle.run_faults.specs.declared.file_fault.FileFault.TheVariants as files
use Rattle.run_faults.specs.declared.cause.Cause.TheVariants as causes
use Rattle.krl_entries.specs.Changes.{MeansMore}
use Rattle.run_faults.specs.declared.spec_cause.SpecCause.{SpecCause}
use Rattle.run_faults.specs.declared.spec_cause.SpecCause.TheVariants as specs
use Rattle.krl_spec.specs.declared.spec_fault.SpecFault.{SpecFault}
use Rattle.run_faults.specs.RunFault.{krl_cause}
use Rattle.run_faults.specs.Keys.{Named, FileKey, run_fault_at, run_fault_in, text_keys}
use Rattle.krl_spec.specs.Lines.{lines_of}
use Rattle.run_faults.specs.RunFault.{RunFault, EndedBy, ByInput, ByMemory, ByOutput, ended_by}
use Rattle.run_faults.specs.RunFault.{run_fault_of}

-- ---- faults of the run

abbrev pub list_run_fault : List ℕ → KrlFault → RunFault
list_run_fault name fault = run_fault_of name (krl_cause fault)

abbrev pub file_run_fault : List ℕ → FileFault → RunFault
file_run_fault name fault = run_fault_of name (causes.File fault)

-- a fault of a line; a failed allocation is a fault of the run itself, without a line
abbrev pub cause_run_fault : List ℕ → ℕ → SpecCause → RunFault
cause_run_fault name number specs.NoMemory = run_fault_of name causes.NoMemory
cause_run_fault name number cause = run_fault_at name number (causes.Spec cause)

abbrev pub line_run_fault : List ℕ → SpecFault → RunFault
line_run_fault name fault = run_fault_at name fault.line (causes.Spec fault.cause)

-- ---- the authority

-- the blob of the plain key of a key of a file
abbrev pub key_blob : FileKey → Result (List ℕ) RunFault
key_blob key = do
  asked ← in_fault (run_fault_in key) (subject_of key.line.blob)
  Ok asked.plain

-- the first key of a file with this name
abbrev pub first_blob : List ℕ → List (Result FileKey RunFault) → Result (List ℕ) RunFault
first_blob name [] = Err (file_run_fault name files.NoKeys)
first_blob name (next ∷ later) = do
  key ← next
  key_blob key

-- the first key of a file's text
unfoldable pub first_key_of : List ℕ → List ℕ → Result (List ℕ) RunFault
first_key_of name text = first_blob name (text_keys name text)

-- the first key of a file
abbrev pub file_key : Named → Result (List ℕ) RunFault
file_key file = do
  text ← in_fault (file_run_fault file.name) file.content
  first_key_of file.name text

-- The authority, if one is given: empty bytes for all authorities, otherwise the first key of a
-- file.
abbrev pub named_blob : AuthorityOption Named → Result (Option (List ℕ)) RunFault
named_blob NotGiven = Ok None
named_blob All = Ok (Some [])
named_blob (FileOf file) = do
  blob ← file_key file
  Ok (Some blob)

-- ---- the files

abbrev pub unless_fault : List ℕ → List Entry → Option SpecFault → Result (List Entry) RunFault
unless_fault name entries None = Ok entries
unless_fault name entries (Some fault) = Err (line_run_fault name fault)

abbrev pub text_entries : Option (List ℕ) → List ℕ → List ℕ → Result (List Entry) RunFault
text_entries authority name text =
    unless_fault name (lines_of authority text).entries (lines_of authority text).fault

-- the entries of a file's lines, or the fault that stops the run
unfoldable pub file_entries : Option (List ℕ) → Named → Result (List Entry) RunFault
file_entries authority file = do
  text ← in_fault (file_run_fault file.name) file.content
  text_entries authority file.name text

abbrev pub then_entries : Result (List Entry) RunFault → Result (List Entry) RunFault
    → Result (List Entry) RunFault
then_entries first second = do
  entries ← first
  later ← second
  Ok (entries ++ later)

-- the entries of the lines of all files, or the first fault
abbrev pub files_entries : Option (List ℕ) → List Named → Result (List Entry) RunFault
files_entries authority [] = Ok []
files_entries authority (file ∷ files) =
    then_entries (file_entries authority file) (files_entries authority files)

-- ---- the run

-- The entries of lines were added, with at most one more interval of serials for each.
pub record HoldsMore (old new : Revocations) (entries : List Entry) : Type 0 where
  pub means : MeansMore old new entries
  pub held_is : held new ≤ held old + length entries

-- the maximum number of intervals for the bytes of an old list and the lines that gave an entry
abbrev pub paid : (bytes lines : ℕ) → ℕ
paid bytes lines = 4 * bytes + lines

-- the parts of a list: its header, the revocations of the old list, and the entries of the lines
pub record Parts : Type 0 where
  pub header : Header
  pub old : Revocations
  pub entries : List Entry

abbrev pub parts_of : Header → Revocations → List Entry → Parts
parts_of header old entries = record { header = header; old = old; entries = entries }

-- the header of the list that is made
abbrev pub header_of : ℕ → ℕ → Base → Header
header_of version moment base =
    record { version = version; date = moment; comment = base.comment }

-- the version and the date are numbers of 64 bits
abbrev pub HasNumbers : Header → Type 0
HasNumbers header = (header.version < 2 ^ 64) × (header.date < 2 ^ 64)

-- The parts of a list with this name, given the old list. The run is stopped by the first of these
-- faults: the largest version, that of the authority's file, those of the files and lines in order.
abbrev pub after_old : List ℕ → AuthorityOption Named → Option ℕ → ℕ → List Named → Base
    → Result Parts RunFault
after_old name authority given moment files base = do
  version ← ok_or (version_of 0 given base.version) (run_fault_of name causes.VersionFull)
  signer ← named_blob authority
  entries ← files_entries signer files
  Ok (parts_of (header_of version moment base) base.revocations entries)

-- The same, given the result of reading the old list, whose fault is the first.
unfoldable pub make_run_of : List ℕ → Result Base KrlFault → AuthorityOption Named → Option ℕ
    → List Named → ℕ → Result Parts RunFault
make_run_of name outcome authority version files moment = do
  base ← in_fault (list_run_fault name) outcome
  after_old name authority version moment files base

-- ---- the result of the run

-- The authority's file is current, if one is given.
abbrev pub IsCurrentAuthority : AuthorityOption Named → List ℕ → Type 0
IsCurrentAuthority NotGiven at = ⊥
IsCurrentAuthority All at = ⊥
IsCurrentAuthority (FileOf file) at = file.name ≡ at

-- A file is current whose lines are read: the files before it have no fault.
pub record IsCurrentFile (authority : Option (List ℕ)) (files : List Named) (at : List ℕ)
    : Type 0 where
  pub front : List Named
  pub file : Named
  pub back : List Named
  pub parts : files ≡ front ++ file ∷ back
  pub entries : List Entry
  pub faultless : files_entries authority front ≡ Ok entries
  pub named : file.name ≡ at

-- The name that is current in a run that makes a list: the list while the old one is read, then the
-- authority's file, then the files in order, and the list again while it is written.
pub data IsCurrentName (name : List ℕ) (outcome : Result Base KrlFault)
    (authority : AuthorityOption Named) (given : Option ℕ) (files : List Named)
    (read : Result Parts RunFault) (at : List ℕ)
    : Type 0 where
  old_list : outcome ≡ Err faults.NoMemory → name ≡ at
      → IsCurrentName name outcome authority given files read at
  authority_file : (base : Base) (version : ℕ) → outcome ≡ Ok base
      → version_of 0 given base.version ≡ Some version → IsCurrentAuthority authority at
      → IsCurrentName name outcome authority given files read at
  lines : (base : Base) (version : ℕ) (signer : Option (List ℕ)) → outcome ≡ Ok base
      → version_of 0 given base.version ≡ Some version → named_blob authority ≡ Ok signer
      → IsCurrentFile signer files at → IsCurrentName name outcome authority given files read at
  new_list : (made : Parts) → read ≡ Ok made → name ≡ at
      → IsCurrentName name outcome authority given files read at

-- The fault that stopped a run is the one that reading gives, or an allocation failed, and the
-- fault has the current name.
abbrev pub IsRunFault : {X : Type 0} → EndedBy → (List ℕ → Type 0) → Result X RunFault → RunFault
    → Type 0
IsRunFault ByInput IsCurrent read stop = read ≡ Err stop
IsRunFault ByMemory IsCurrent read stop =
    (at : List ℕ) × (IsCurrent at × (stop ≡ run_fault_of at causes.NoMemory))
IsRunFault (ByOutput count) IsCurrent read stop = ⊥

-- A function returned what reading gives, seen by a view, or an allocation failed.
abbrev pub Returns : {X Y : Type 0} → (X → Y) → (List ℕ → Type 0) → Result Y RunFault
    → Result X RunFault
    → Type 0
Returns view IsCurrent read (Ok x) = read ≡ Ok (view x)
Returns view IsCurrent read (Err stop) = IsRunFault (ended_by stop.cause) IsCurrent read stop

-- the entries that were read from files were added
abbrev pub Added : Result (List Entry) RunFault → Revocations → Revocations → Type 0
Added read old new = (entries : List Entry) × ((read ≡ Ok entries) × HoldsMore old new entries)

-- The entries of the files were added, or the run stopped.
abbrev pub AddsFiles : {A : Type 0} → (List ℕ → Type 0) → Result (List Entry) RunFault
    → Result A RunFault
    → Revocations → Revocations → Type 0
AddsFiles IsCurrent read (Ok done) old new = Added read old new
AddsFiles IsCurrent read (Err stop) old new = IsRunFault (ended_by stop.cause) IsCurrent read stop

-- The text is a list that revokes exactly what the entries revoke.
pub record NamesSame (header : Header) (text : List ℕ) (entries : List Entry) : Type 0 where
  pub sections : List SpelledSection
  pub spelled : Spells text header sections
  pub same : (asked : Subject) → Revoked (entries_of sections) asked ↔ Revoked entries asked

-- The text is the list that is written from the old revocations and the lines. It revokes exactly
-- what any entries with the meaning of the old list and those of the lines revoke.
pub record IsMade (made : Parts) (text : List ℕ) : Type 0 where
  pub contents : Revocations
  pub adds : HoldsMore made.old contents made.entries
  pub written : IsKrlText made.header contents text
  pub within : length text ≤ limit
  pub names : (olds : List Entry) → Means made.old olds
      → NamesSame made.header text (olds ++ made.entries)

-- The list that would be written is longer than a list that can be read.
pub record IsTooLong (made : Parts) : Type 0 where
  pub contents : Revocations
  pub adds : HoldsMore made.old contents made.entries
  pub long : (text : List ℕ) → IsKrlText made.header contents text → limit < length text

-- the text of a list was too long
pub record StopsAtText (name : List ℕ) (read : Result Parts RunFault) (stop : RunFault)
    : Type 0 where
  pub made : Parts
  pub read_as : read ≡ Ok made
  pub long : IsTooLong made
  pub stop_is : stop ≡ run_fault_of name causes.TextTooLong

-- The run returns the list, or the fault that stopped it.
abbrev pub Makes : {X : Type 0} → (X → List ℕ) → List ℕ → Result Base KrlFault
    → AuthorityOption Named → Option ℕ → List Named → Result Parts RunFault → Result X RunFault
    → Type 0
Makes view name outcome authority given files read (Ok text) =
    (made : Parts) × ((read ≡ Ok made) × IsMade made (view text))
Makes view name outcome authority given files read (Err stop) =
    IsRunFault (ended_by stop.cause)
    (IsCurrentName name outcome authority given files read) read stop
    ⊎ StopsAtText name read stop

-- The text is that of the header and the revocations, and names exactly what these mean. Otherwise
-- it is too long, or an allocation failed.
abbrev pub WritesList : {X : Type 0} → (X → List ℕ) → List ℕ → Header → Revocations
    → Result X RunFault
    → Type 0
WritesList view name header contents (Ok text) =
    IsKrlText header contents (view text) × (length (view text) ≤ limit)
    × ((entries : List Entry) → Means contents entries → NamesSame header (view text) entries)
WritesList view name header contents (Err stop) =
    (stop ≡ run_fault_of name causes.NoMemory)
    ⊎ ((stop ≡ run_fault_of name causes.TextTooLong)
    × ((text : List ℕ) → IsKrlText header contents text → limit < length text))

-- The list is made. Otherwise its text is too long, or an allocation failed.
abbrev pub WritesMade : {X : Type 0} → (X → List ℕ) → List ℕ → Parts → Result X RunFault → Type 0
WritesMade view name made (Ok text) = IsMade made (view text)
WritesMade view name made (Err stop) =
    (stop ≡ run_fault_of name causes.NoMemory)
    ⊎ ((stop ≡ run_fault_of name causes.TextTooLong) × IsTooLong made)

-- The list is made from the old revocations and those of the files, or the files stop the run.
abbrev pub WritesMore : {X : Type 0} → (X → List ℕ) → List ℕ → Header → Revocations
    → (List ℕ → Type 0) → Result (List Entry) RunFault → Result X RunFault → Type 0
WritesMore view name header old IsCurrent read result =
    ((entries : List Entry) × ((read ≡ Ok entries)
    × WritesMade view name (parts_of header old entries) result))
    ⊎ ((stop : RunFault)
    × ((result ≡ Err stop) × IsRunFault (ended_by stop.cause) IsCurrent read stop))

-- ---- the old list

-- the base of a new list
abbrev pub new_base : Base
new_base = record { version = None; comment = []; revocations = nothing }

-- the base that a list gives
abbrev pub base_of : Header → Revocations → Base
base_of header contents =
    record { version = Some header.version; comment = header.comment; revocations = contents }

-- The text is a list without a fault, and this is its base.
pub record IsOldList (text : List ℕ) (base : Base) : Type 0 where
  pub header : Header
  pub list : IsList text header base.revocations
  pub no_fault : IsFirstKrlFault text None
  pub version_is : base.version ≡ Some header.version
  pub comment_is : base.comment ≡ header.comment
