-- The names of a directory that an audit goes to.
use Rattle.std.specs.Prelude.{◌≡◌, ℕ, ◌+◌, ◌-◌, ◌^◌, ◌||◌, if◌then◌else◌, Bool, true, false}
use Rattle.std.specs.Prelude.{List, [], ◌∷◌, codes, IsPermutation, min, Result, Ok, Err}
use Rattle.std.specs.Cmp.Lexicographic.{slice_cmp}
use Rattle.std.specs.Global.{Vec}
use Rattle.std.specs.List.Sorted.{IsSorted}
use Rattle.std.specs.Ordering.{nat_cmp}
use Rattle.std.specs.Str.{IsUtf8, bytes_eq}
use Rattle.audit_run.specs.Selection.{is_sought, selection_of}
use Rattle.audit_run.specs.Paths.{path_in}
use Rattle.audit_run.specs.declared.selection.Selection.{Selection}
use Rattle.audit_run.specs.declared.selection.Selection.TheVariants as selections
use Rattle.audit_lines.specs.declared.why.Refusal.{Refusal}
use Rattle.audit_lines.specs.declared.why.Refusal.TheVariants.{Missing}
use Rattle.audit_run.specs.Fact.{Excludes, Fact, Leads, Sought}
use Rattle.audit_run.specs.ZeroEnded.{names_after}
use Rattle.audit_run.specs.declared.file_kind.FileKind.{FileKind}
use Rattle.audit_run.specs.declared.file_kind.FileKind.TheVariants as kinds
use Rattle.audit_run.specs.declared.file_kind.Found.{Found}
use Rattle.audit_run.specs.declared.names.Listing.{Listing}

-- ---- what a path leads to

abbrev pub is_directory_kind : FileKind → Bool
is_directory_kind kinds.Directory = true
is_directory_kind kinds.File = false
is_directory_kind kinds.Link = false
is_directory_kind kinds.Null = false
is_directory_kind kinds.Other = false

abbrev pub is_link_kind : FileKind → Bool
is_link_kind kinds.Directory = false
is_link_kind kinds.File = false
is_link_kind kinds.Link = true
is_link_kind kinds.Null = false
is_link_kind kinds.Other = false

-- neither a regular file nor the null device
abbrev pub is_irregular : FileKind → Bool
is_irregular kinds.Directory = true
is_irregular kinds.File = false
is_irregular kinds.Link = true
is_irregular kinds.Null = false
is_irregular kinds.Other = true

abbrev pub is_directory : Result Found Refusal → Bool
is_directory (Ok found) = is_directory_kind found.kind
is_directory (Err refusal) = false

abbrev pub is_link : Result Found Refusal → Bool
is_link (Ok found) = is_link_kind found.kind
is_link (Err refusal) = false

-- ---- one name

-- the directory itself, or the one that it is in
abbrev pub is_dots : List ℕ → Bool
is_dots name = bytes_eq name (codes ".") || bytes_eq name (codes "..")

-- no file of this name is read
abbrev pub is_never : Selection → Bool
is_never selections.Always = false
is_never selections.IfPrivate = false
is_never selections.Never = true

-- A link that is not known to lead to a directory may lead to one: what it leads to cannot be
-- looked at.
abbrev pub may_be_behind : Result Found Refusal → Bool
may_be_behind (Ok found) = false
may_be_behind (Err Missing) = false
may_be_behind (Err refusal) = true

-- A link, whose own name is looked for or not, leads to a directory whose files are looked for, by
-- its own name or that of the directory; or it cannot be looked at.
pub data MayBeWanted (Knows : Fact → Type 0) (sought : Bool) (path : List ℕ) (may : Bool)
    : Type 0 where
  linked : (other : Result Found Refusal) (leads : Bool) → Knows (Leads path true other)
      → is_directory other ≡ true → Knows (Sought path leads) → may ≡ sought || leads
      → MayBeWanted Knows sought path may
  unlinked : (other : Result Found Refusal) → Knows (Leads path true other)
      → is_directory other ≡ false → may ≡ may_be_behind other → MayBeWanted Knows sought path may

-- A path is that of a directory, leads to one whose files are looked for, or cannot be looked at.
pub data MayBeDirectory (Knows : Fact → Type 0) (sought : Bool) (path : List ℕ) (may : Bool)
    : Type 0 where
  not_looked_at : (refusal : Refusal) → Knows (Leads path false (Err refusal)) → may ≡ true
      → MayBeDirectory Knows sought path may
  looked_at : (found : Found) → Knows (Leads path false (Ok found))
      → is_link_kind found.kind ≡ false → may ≡ is_directory_kind found.kind
      → MayBeDirectory Knows sought path may
  behind : (found : Found) → Knows (Leads path false (Ok found)) → is_link_kind found.kind ≡ true
      → MayBeWanted Knows sought path may → MayBeDirectory Knows sought path may

-- Whether an audit goes to a name of the directory at this path, of which every file is read or
-- not: never to the directory itself or the one that it is in, always to a file that its name
-- selects, and otherwise to what may be a directory. A name that the command excludes comes too, to
-- be counted, and is not looked at.
pub data IsWanted (Knows : Fact → Type 0) (every : Bool) (path : List ℕ) (wanted : Bool)
    (name : List ℕ) : Type 0 where
  dots : is_dots name ≡ true → wanted ≡ false → IsWanted Knows every path wanted name
  excluded_name : is_dots name ≡ false → Knows (Excludes name true) → wanted ≡ true
      → IsWanted Knows every path wanted name
  selected : is_dots name ≡ false → Knows (Excludes name false)
      → is_never (selection_of every name) ≡ false → wanted ≡ true
      → IsWanted Knows every path wanted name
  no_text : is_dots name ≡ false → Knows (Excludes name false)
      → is_never (selection_of every name) ≡ true → (IsUtf8 name → ⊥) → wanted ≡ true
      → IsWanted Knows every path wanted name
  not_selected : is_dots name ≡ false → Knows (Excludes name false)
      → is_never (selection_of every name) ≡ true → IsUtf8 name
      → MayBeDirectory Knows (is_sought name) (path_in path name) wanted
      → IsWanted Knows every path wanted name

-- ---- all names

-- the directory itself and the one that it is in are not counted
abbrev pub passed_over : List ℕ → ℕ
passed_over name = if is_dots name then 0 else 1

-- of all names, those that an audit goes to, and how many it passes over
pub data AreWanted (Knows : Fact → Type 0) (every : Bool) (path : List ℕ)
    : List (List ℕ) → List (Vec ℕ) → ℕ → Type 0 where
  no_name : AreWanted Knows every path [] [] 0
  taken : (name : Vec ℕ) (names : List (List ℕ)) (wanted : List (Vec ℕ)) (skipped : ℕ)
      → IsWanted Knows every path true name.items
      → AreWanted Knows every path names wanted skipped
      → AreWanted Knows every path (name.items ∷ names) (name ∷ wanted) skipped
  left_out : (name : List ℕ) (names : List (List ℕ)) (wanted : List (Vec ℕ)) (skipped : ℕ)
      → IsWanted Knows every path false name
      → AreWanted Knows every path names wanted skipped
      → AreWanted Knows every path (name ∷ names) wanted (skipped + passed_over name)

-- a count that stops at its maximum
abbrev pub capped : ℕ → ℕ
capped count = min count (2 ^ 64 - 1)

-- of these names, those that an audit goes to and how many it passes over were found
pub record AreFound (Knows : Fact → Type 0) (every : Bool) (path : List ℕ) (names : List (List ℕ))
    (found : Listing) : Type 0 where
  pub count : ℕ
  pub are_wanted : AreWanted Knows every path names found.names.items count
  pub skipped_is : found.skipped ≡ capped count

-- of the names that some bytes hold, those that an audit goes to, in order, and how many it skips
pub record AreWantedInOrder (Knows : Fact → Type 0) (every : Bool) (path bytes : List ℕ)
    (names : List (Vec ℕ)) (skipped : ℕ) : Type 0 where
  pub wanted : List (Vec ℕ)
  pub count : ℕ
  pub are_wanted : AreWanted Knows every path (names_after [] bytes) wanted count
  pub same : IsPermutation wanted names
  pub ordered : IsSorted (λ (x y : Vec ℕ). slice_cmp nat_cmp x.items y.items) names
  pub skipped_is : skipped ≡ capped count
