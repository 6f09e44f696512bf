-- The target of a path, and what is met there, by the facts that a tree states about it.
use Rattle.std.specs.Prelude.{◌≡◌, ℕ, Bool, true, false, List, [], ◌∷◌}
use Rattle.std.specs.Prelude.{Option, Some, None, IfSome, Result, Ok, Err}
use Rattle.std.specs.Str.{IsUtf8}
use Rattle.key_text.specs.Armour.{begins_container}
use Rattle.audit_run.specs.Selection.{selection_of}
use Rattle.audit_run.specs.Paths.{path_in}
use Rattle.audit_run.specs.declared.selection.Selection.{Selection}
use Rattle.audit_run.specs.declared.selection.Selection.TheVariants as selections
use Rattle.audit_lines.specs.Front.{fronts_of, is_read_by_lines, reads_every}
use Rattle.line_pieces.specs.Visible.{visible_bytes}
use Rattle.audit_lines.specs.declared.front.Fronts.{Fronts}
use Rattle.audit_lines.specs.declared.front.Fronts.TheVariants as fronts
use Rattle.audit_lines.specs.declared.why.Refusal.{Refusal}
use Rattle.audit_lines.specs.declared.why.Refusal.TheVariants as refusals
use Rattle.krl_audit.specs.Audit.{FileName}
use Rattle.audit_run.specs.Fact.{Excludes, Fact, Fails, Leads, OpenFile, Opens}
use Rattle.audit_run.specs.Names.{is_directory, is_irregular, is_link, is_never}
use Rattle.audit_run.specs.Reading.{IsContent, front_of}
use Rattle.audit_run.specs.Search.{name_in, selects_every}
use Rattle.audit_run.specs.Visits.{Audited, Same, Skipped, Visit, refused}
use Rattle.audit_run.specs.declared.file_kind.FileKind.TheVariants as kinds
use Rattle.audit_run.specs.declared.file_kind.Found.{Found}
use Rattle.audit_run.specs.declared.file_kind.Identity.{Identity}
use Rattle.audit_run.specs.declared.files.Skip.TheVariants as skips
use Rattle.audit_run.specs.declared.search.Search.{Search}

-- ---- the key of a file

-- how the name of a file says that it is read
abbrev pub way_by : Fronts → (by_lines : Bool) → ℕ
way_by fronts.Hosts false = 0
way_by fronts.Options false = 1
way_by fronts.Either false = 2
way_by fronts.Hosts true = 3
way_by fronts.Options true = 4
way_by fronts.Either true = 5

-- the same, or that keys are sought anywhere in its lines
abbrev pub way_of : Option (List ℕ) → ℕ
way_of None = 6
way_of (Some path) = way_by (fronts_of path) (is_read_by_lines path)

-- A file, and how it is read: a file with several names is audited once for each of these ways.
abbrev pub key_of : (read_as : Option (List ℕ)) → Identity → List ℕ
key_of read_as identity =
    identity.device ∷ identity.number ∷ identity.size ∷ identity.changed ∷ identity.nanoseconds
    ∷ way_of read_as ∷ []

-- ---- a file

-- why the reader of an open file at this path failed
abbrev pub FailsAt : (Fact → Type 0) → List ℕ → Refusal → Type 0
FailsAt Knows path refusal = Knows (Fails path refusal)

-- the bytes of a reader are audited, or why they are not read
pub record IsRead (Failed : Refusal → Type 0) (name : FileName) (bytes : Option (List ℕ))
    (key : Option (List ℕ)) (visits : List Visit) : Type 0 where
  pub content : Result (List ℕ) Refusal
  pub is : IsContent Failed bytes content
  pub visits_are : visits ≡ Audited key name content ∷ []

-- A file that is open is read, or it was audited before.
pub data IsOpened (Knows : Fact → Type 0) (name : FileName) (identity : Identity)
    (bytes : Option (List ℕ)) (visits : List Visit) : Type 0 where
  read : IsRead (FailsAt Knows name.shown) name bytes (Some (key_of name.read_as identity)) visits
      → IsOpened Knows name identity bytes visits
  same : (told : Bool) → visits ≡ Same told (key_of name.read_as identity) name.shown ∷ []
      → IsOpened Knows name identity bytes visits

-- An open file that is read only if it begins as a private key file, and is skipped otherwise.
pub data IsPrivateFile (Knows : Fact → Type 0) (name : FileName) (identity : Identity)
    (bytes : Option (List ℕ)) (visits : List Visit) : Type 0 where
  private : IfSome bytes (λ all. begins_container (front_of all) ≡ true)
      → IsOpened Knows name identity bytes visits
      → IsPrivateFile Knows name identity bytes visits
  other : IfSome bytes (λ all. begins_container (front_of all) ≡ false)
      → visits ≡ Skipped skips.ByName 1 ∷ [] → IsPrivateFile Knows name identity bytes visits
  unread : (refusal : Refusal) → Knows (Fails name.shown refusal)
      → visits ≡ refused name.shown refusal → IsPrivateFile Knows name identity bytes visits

-- ---- what a path leads to

-- The target of a path that was looked at: what was found there, or what is behind a link. A link
-- to a directory is not followed.
pub data IsTarget (Knows : Fact → Type 0) (path : List ℕ) (looked target : Result Found Refusal)
    : Type 0 where
  itself : is_link looked ≡ false → target ≡ looked → IsTarget Knows path looked target
  behind : is_link looked ≡ true → Knows (Leads path true target) → is_directory target ≡ false
      → IsTarget Knows path looked target
  link_to_directory : (found : Result Found Refusal) → is_link looked ≡ true
      → Knows (Leads path true found) → is_directory found ≡ true
      → target ≡ Err refusals.DirectoryLink → IsTarget Knows path looked target

-- this content is audited, or the name is skipped
abbrev pub audited_if : Bool → FileName → Result (List ℕ) Refusal → List Visit
audited_if true name content = Audited None name content ∷ []
audited_if false name content = Skipped skips.ByName 1 ∷ []

-- A path leads to these visits, by its target, which is no directory. A file there is read by its
-- name, or only if it begins as a private key file; and a file is expected there or not.
pub data VisitsTarget (Knows : Fact → Type 0) (name : FileName) (by_name expected : Bool)
    (target : Result Found Refusal) (visits : List Visit) : Type 0 where
  -- it cannot be looked at, or is a link to a directory
  unseen : (refusal : Refusal) → target ≡ Err refusal → visits ≡ refused name.shown refusal
      → VisitsTarget Knows name by_name expected target visits
  -- a regular file that cannot be opened
  not_opened : (found : Found) (refusal : Refusal) → target ≡ Ok found → found.kind ≡ kinds.File
      → Knows (Opens name.shown (Some found) (Err refusal)) → visits ≡ refused name.shown refusal
      → VisitsTarget Knows name by_name expected target visits
  -- one that is no regular file any more once it is open
  not_regular : (found : Found) (held : OpenFile) → target ≡ Ok found → found.kind ≡ kinds.File
      → Knows (Opens name.shown (Some found) (Ok held)) → held.is_file ≡ false
      → visits ≡ refused name.shown refusals.Irregular
      → VisitsTarget Knows name by_name expected target visits
  -- a regular file that is read by its name
  regular : (found : Found) (held : OpenFile) → target ≡ Ok found → found.kind ≡ kinds.File
      → Knows (Opens name.shown (Some found) (Ok held)) → held.is_file ≡ true → by_name ≡ true
      → IsOpened Knows name held.identity held.bytes visits
      → VisitsTarget Knows name by_name expected target visits
  -- one that is read only if it begins as a private key file
  private_only : (found : Found) (held : OpenFile) → target ≡ Ok found → found.kind ≡ kinds.File
      → Knows (Opens name.shown (Some found) (Ok held)) → held.is_file ≡ true → by_name ≡ false
      → IsPrivateFile Knows name held.identity held.bytes visits
      → VisitsTarget Knows name by_name expected target visits
  -- the null device, which is an empty file
  null_device : (found : Found) → target ≡ Ok found → found.kind ≡ kinds.Null
      → visits ≡ audited_if by_name name (Ok [])
      → VisitsTarget Knows name by_name expected target visits
  -- a pipe, a socket or another device
  irregular : (found : Found) → target ≡ Ok found → is_irregular found.kind ≡ true
      → visits ≡ audited_if expected name (Err refusals.Irregular)
      → VisitsTarget Knows name by_name expected target visits

-- ---- a name of a directory

-- whether a file is read by its name, whatever it has
abbrev pub is_always : Selection → Bool
is_always selections.Always = true
is_always selections.IfPrivate = false
is_always selections.Never = false

-- whether sshd or ssh reads a file of this name in this directory
abbrev pub is_expected : (directory name : List ℕ) → Bool
is_expected directory name = is_always (selection_of (reads_every directory) name)

-- A name of a directory leads to this by the search in this directory: to a directory that is
-- entered, or not. A name that the command excludes is counted.
pub data IsEntry (Knows : Fact → Type 0) (search : Search) (directory name : List ℕ) (down : Bool)
    (visits : List Visit) : Type 0 where
  excluded : Knows (Excludes name true) → down ≡ false → visits ≡ Skipped skips.Excluded 1 ∷ []
      → IsEntry Knows search directory name down visits
  no_text : Knows (Excludes name false) → (IsUtf8 name → ⊥) → down ≡ false
      → visits ≡ refused (visible_bytes false (path_in directory name)) refusals.Open
      → IsEntry Knows search directory name down visits
  not_selected : Knows (Excludes name false) → IsUtf8 name
      → is_never (selection_of (selects_every search) name) ≡ true → down ≡ true → visits ≡ []
      → IsEntry Knows search directory name down visits
  below : (found : Result Found Refusal) → Knows (Excludes name false) → IsUtf8 name
      → is_never (selection_of (selects_every search) name) ≡ false
      → Knows (Leads (path_in directory name) false found) → is_directory found ≡ true
      → down ≡ true → visits ≡ [] → IsEntry Knows search directory name down visits
  here : (looked target : Result Found Refusal) → Knows (Excludes name false) → IsUtf8 name
      → is_never (selection_of (selects_every search) name) ≡ false
      → Knows (Leads (path_in directory name) false looked) → is_directory looked ≡ false
      → IsTarget Knows (path_in directory name) looked target → down ≡ false
      → VisitsTarget Knows (name_in search (path_in directory name))
      (is_always (selection_of (selects_every search) name)) (is_expected directory name) target
      visits
      → IsEntry Knows search directory name down visits
