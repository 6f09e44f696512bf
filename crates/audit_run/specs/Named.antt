-- The files and directories that are named.
use Rattle.std.specs.Prelude.{◌≡◌, ℕ, ◌<◌, ◌≤◌, ◌⊎◌, if◌then◌else◌, Bool, true, false, List}
use Rattle.std.specs.Prelude.{[], ◌∷◌, ◌++◌, codes, length, take}
use Rattle.std.specs.Prelude.{Option, Some, None, IfSome, Result, Ok, Err}
use Rattle.std.specs.Borrow.{Bor}
use Rattle.std.specs.Str.{IsUtf8, bytes_eq}
use Rattle.line_pieces.specs.Visible.{visible_bytes}
use Rattle.audit_lines.specs.declared.why.Refusal.{Refusal}
use Rattle.audit_lines.specs.declared.why.Refusal.TheVariants as refusals
use Rattle.krl_audit.specs.Audit.{FileName}
use Rattle.audit_run.specs.Entries.{FailsAt, IsOpened, IsRead, VisitsTarget}
use Rattle.audit_run.specs.Fact.{Fact, Leads, OpenFile, Opens}
use Rattle.audit_run.specs.Names.{is_directory}
use Rattle.audit_run.specs.Reading.{InputFails}
use Rattle.audit_run.specs.Search.{name_in}
use Rattle.audit_run.specs.Visits.{Audited, Visit, refused}
use Rattle.audit_run.specs.Walk.{IsDirectory}
use Rattle.audit_run.specs.ZeroEnded.{most_bytes, names_after, rest_after}
use Rattle.audit_run.specs.declared.file_kind.Found.{Found}
use Rattle.audit_run.specs.declared.search.Search.{Search}

-- ---- one name

-- A path that the command names and that is no directory is opened and read, also if it is a pipe,
-- which has no key.
pub data IsWaiting (Knows : Fact → Type 0) (name : FileName) (visits : List Visit) : Type 0 where
  not_opened : (refusal : Refusal) → Knows (Opens name.shown None (Err refusal))
      → visits ≡ refused name.shown refusal → IsWaiting Knows name visits
  regular : (held : OpenFile) → Knows (Opens name.shown None (Ok held)) → held.is_file ≡ true
      → IsOpened Knows name held.identity held.bytes visits → IsWaiting Knows name visits
  not_regular : (held : OpenFile) → Knows (Opens name.shown None (Ok held))
      → held.is_file ≡ false → IsRead (FailsAt Knows name.shown) name held.bytes None visits
      → IsWaiting Knows name visits

-- ---- standard input

-- Standard input is read where it is named first. It has no more bytes where it is named again.
abbrev pub IsInput : (Failed : Type 0) → (input : Option (Option (List ℕ))) → FileName
    → List Visit → Type 0
IsInput Failed None name visits = visits ≡ Audited None name (Ok []) ∷ []
IsInput Failed (Some bytes) name visits = IsRead (InputFails Failed) name bytes None visits

abbrev pub is_input : List ℕ → Bool
is_input path = bytes_eq path (codes "-")

-- standard input after a path, if it was not read before: it is read where it is named
abbrev pub input_after : (path : List ℕ) → Option (Option (List ℕ)) → Option (Option (List ℕ))
input_after path input = if is_input path then None else input

-- ---- a path that the command names

-- A path that the command names leads to this. A link to a directory is followed.
pub data IsNamed (Knows : Fact → Type 0) (Failed : Type 0) (search : Search) (whole : Bool)
    (path : List ℕ) (input : Option (Option (List ℕ))) (visits : List Visit) : Type 0 where
  input_read : is_input path ≡ true → IsInput Failed input (name_in search path) visits
      → IsNamed Knows Failed search whole path input visits
  directory : (found : Result Found Refusal) → is_input path ≡ false
      → Knows (Leads path true found) → is_directory found ≡ true
      → IsDirectory Knows search whole path visits
      → IsNamed Knows Failed search whole path input visits
  waiting : (found : Result Found Refusal) → is_input path ≡ false
      → Knows (Leads path true found) → is_directory found ≡ false
      → IsWaiting Knows (name_in search path) visits
      → IsNamed Knows Failed search whole path input visits
  before_path : whole ≡ false → visits ≡ [] → IsNamed Knows Failed search whole path input visits

-- ---- a name of a list of names

-- the most bytes of a name in a list of names
abbrev pub most_name : ℕ
most_name = 4096

-- A name of a list of names leads to this. No pipe is waited for.
pub data IsOnList (Knows : Fact → Type 0) (search : Search) (whole : Bool) (name : List ℕ)
    (visits : List Visit) : Type 0 where
  long_name : most_name < length name
      → visits ≡ refused (visible_bytes false (take most_name name)) refusals.LongName
      → IsOnList Knows search whole name visits
  no_text : length name ≤ most_name → (IsUtf8 name → ⊥)
      → visits ≡ refused (visible_bytes false name) refusals.Open
      → IsOnList Knows search whole name visits
  directory : (found : Result Found Refusal) → length name ≤ most_name → IsUtf8 name
      → Knows (Leads name true found) → is_directory found ≡ true
      → IsDirectory Knows search whole name visits → IsOnList Knows search whole name visits
  here : (target : Result Found Refusal) → length name ≤ most_name → IsUtf8 name
      → Knows (Leads name true target) → is_directory target ≡ false
      → VisitsTarget Knows (name_in search name) true true target visits
      → IsOnList Knows search whole name visits
  before_name : whole ≡ false → visits ≡ [] → IsOnList Knows search whole name visits

-- ---- one after another

-- Each of these, one after another, leads to this; or an audit stopped within one.
pub data Each {X : Type 0} (Is : Bool → X → List Visit → Type 0) (whole : Bool)
    : List X → List Visit → Type 0 where
  none : Each Is whole [] []
  next : (x : X) (xs : List X) (first rest : List Visit) → Is true x first → Each Is whole xs rest
      → Each Is whole (x ∷ xs) (first ++ rest)
  stopped : (x : X) (xs : List X) (first : List Visit) → whole ≡ false → Is false x first
      → Each Is whole (x ∷ xs) first

-- a path that the command names, and standard input, if it was not read before
pub record NamedPath : Type 0 where
  pub path : List ℕ
  pub input : Option (Option (List ℕ))

abbrev pub with_input : (input : Option (Option (List ℕ))) → List (Bor (List ℕ)) → List NamedPath
with_input input [] = []
with_input input (path ∷ paths) =
    (record { path = path.now; input = input }) ∷ with_input (input_after path.now input) paths

-- The paths that the command names lead to this, in this order.
abbrev pub AreNamed : (Fact → Type 0) → (Failed : Type 0) → Search → (whole : Bool)
    → (input : Option (Option (List ℕ))) → List (Bor (List ℕ)) → List Visit → Type 0
AreNamed Knows Failed search whole input paths visits =
    Each (λ whole named visits. IsNamed Knows Failed search whole named.path named.input visits)
    whole (with_input input paths) visits

-- ---- names that a reader gives

-- the last name, if it lacks its zero byte
abbrev pub names_to : (last : List ℕ) → List (List ℕ)
names_to [] = []
names_to (byte ∷ last) = (byte ∷ last) ∷ []

-- all names that these bytes hold
abbrev pub names_of : (bytes : List ℕ) → List (List ℕ)
names_of bytes = names_after [] bytes ++ names_to (rest_after [] bytes)

-- The names that a reader with these bytes gives lead to this: all of them, or those of the first
-- bytes, up to where the audit stopped.
abbrev pub IsOnNames : (Fact → Type 0) → Search → (whole : Bool) → Option (List ℕ) → List Visit
    → Type 0
IsOnNames Knows search true left visits =
    IfSome left (λ bytes. Each (IsOnList Knows search) true (names_of bytes) visits)
IsOnNames Knows search false left visits =
    IfSome left (λ bytes. (first rest : List ℕ) × ((bytes ≡ first ++ rest)
    × (Each (IsOnList Knows search) false (names_after [] first) visits
    ⊎ Each (IsOnList Knows search) false (names_of bytes) visits)))

-- why names cannot be read to their end: their reader failed, or has more bytes than are read
abbrev pub IsBroken : (Failed : Type 0) → Option (List ℕ) → Type 0
IsBroken Failed left = Failed ⊎ IfSome left (λ bytes. most_bytes ≤ length bytes)
