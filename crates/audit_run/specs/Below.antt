-- Files below a directory, in a tree of files that does not change.
use Rattle.std.specs.Prelude.{◌≡◌, ℕ, Bool, true, false, List, [], Contains, Option, Some, None}
use Rattle.std.specs.Prelude.{Result, Ok, Err}
use Rattle.std.specs.Str.{IsUtf8}
use Rattle.key_text.specs.Armour.{begins_container}
use Rattle.audit_run.specs.Selection.{selection_of}
use Rattle.audit_run.specs.Paths.{path_in}
use Rattle.audit_run.specs.declared.selection.Selection.{Selection}
use Rattle.audit_run.specs.declared.selection.Selection.TheVariants as selections
use Rattle.audit_lines.specs.declared.why.Refusal.{Refusal}
use Rattle.krl_audit.specs.Audit.{FileName}
use Rattle.audit_run.specs.Fact.{Elsewhere, Excludes, Fact, Leads, Lists, OpenFile, Opens}
use Rattle.audit_run.specs.Names.{is_dots}
use Rattle.audit_run.specs.Reading.{front_of}
use Rattle.audit_run.specs.Search.{search_in, selects_every}
use Rattle.audit_run.specs.Visits.{Audited, Same, Skipped, Visit}
use Rattle.audit_run.specs.declared.file_kind.FileKind.TheVariants as kinds
use Rattle.audit_run.specs.declared.file_kind.Found.{Found}
use Rattle.audit_run.specs.declared.search.Search.{Search}
use Rattle.audit_run.specs.ZeroEnded.{names_after}

-- A tree that has one answer to each question.
pub record IsSteady (Knows : Fact → Type 0) : Type 0 where
  pub leads : (path : List ℕ) (followed : Bool) (one other : Result Found Refusal)
      → Knows (Leads path followed one) → Knows (Leads path followed other) → one ≡ other
  pub excludes : (name : List ℕ) (one other : Bool) → Knows (Excludes name one)
      → Knows (Excludes name other) → one ≡ other
  pub elsewheres : (path : List ℕ) (one other : Bool) → Knows (Elsewhere path one)
      → Knows (Elsewhere path other) → one ≡ other
  pub opens : (path : List ℕ) (looked : Option Found) (one other : Result OpenFile Refusal)
      → Knows (Opens path looked one) → Knows (Opens path looked other) → one ≡ other
  pub lists : (path : List ℕ) (named : Bool) (one other : Result (Option (List ℕ)) Refusal)
      → Knows (Lists path named one) → Knows (Lists path named other) → one ≡ other

-- A directory, which is named or not, has this name: it is text, the command does not exclude it,
-- and it is neither that of the directory itself nor that of the one that it is in.
pub record HasName (Knows : Fact → Type 0) (named : Bool) (directory name : List ℕ)
    : Type 0 where
  pub bytes : List ℕ
  pub lists : Knows (Lists directory named (Ok (Some bytes)))
  pub one_of : Contains (names_after [] bytes) name
  pub no_dots : is_dots name ≡ false
  pub not_excluded : Knows (Excludes name false)
  pub text : IsUtf8 name

-- A directory is the one that is named, or is found in one that is below it. No link is followed,
-- and where the audit stays on one file system no directory on another one is entered.
pub data IsBelow (Knows : Fact → Type 0) (top : List ℕ)
    : (named : Bool) → (directory : List ℕ) → Type 0 where
  itself : IsBelow Knows top true top
  deeper : (named : Bool) (directory name : List ℕ) (found : Found)
      → IsBelow Knows top named directory → HasName Knows named directory name
      → Knows (Leads (path_in directory name) false (Ok found))
      → found.kind ≡ kinds.Directory → Knows (Elsewhere (path_in directory name) false)
      → IsBelow Knows top false (path_in directory name)

-- A path is that of this regular file, or of a link to it.
pub data LeadsToFile (Knows : Fact → Type 0) (path : List ℕ) (file : Found) : Type 0 where
  regular : Knows (Leads path false (Ok file)) → LeadsToFile Knows path file
  linked : (link : Found) → Knows (Leads path false (Ok link)) → link.kind ≡ kinds.Link
      → Knows (Leads path true (Ok file)) → LeadsToFile Knows path file

-- A file is read by its name, or since its name and its first bytes are those of a private key
-- file.
pub data IsSelected (Knows : Fact → Type 0) (path : List ℕ) (file : Found)
    : Selection → Type 0 where
  by_name : IsSelected Knows path file selections.Always
  by_front : (held : OpenFile) (bytes : List ℕ) → Knows (Opens path (Some file) (Ok held))
      → held.bytes ≡ Some bytes → begins_container (front_of bytes) ≡ true
      → IsSelected Knows path file selections.IfPrivate

-- A path is that of a file that is wanted, in a directory that is below one that is named.
pub record IsFileBelow (Knows : Fact → Type 0) (search : Search) (top path : List ℕ) : Type 0
  where
    pub named : Bool
    pub directory : List ℕ
    pub name : List ℕ
    pub file : Found
    pub path_is : path ≡ path_in directory name
    pub below : IsBelow Knows top named directory
    pub has_name : HasName Knows named directory name
    pub leads : LeadsToFile Knows path file
    pub is_file : file.kind ≡ kinds.File
    pub selected : IsSelected Knows path file
        (selection_of (selects_every (search_in search directory)) name)

-- ---- visits

abbrev pub IsVisitOf : List ℕ → Visit → Type 0
IsVisitOf path (Audited key name content) = name.shown ≡ path
IsVisitOf path (Same told key name) = name ≡ path
IsVisitOf path (Skipped why count) = ⊥

-- a path was audited, or is one more name of a file that was
abbrev pub SomeVisit : List ℕ → List Visit → Type 0
SomeVisit path visits = (visit : Visit) × (Contains visits visit × IsVisitOf path visit)

-- something is reported as unread
abbrev pub SomeUnread : List Visit → Type 0
SomeUnread visits =
    (name : FileName) × (refusal : Refusal) × Contains visits (Audited None name (Err refusal))
