-- Which directories an audit enters, and in which order. None is entered within another call: those
-- that were entered, and their names that are left, are a list.
use Rattle.std.specs.Prelude.{◌≡◌, ℕ, ◌+◌, ◌-◌, ◌^◌, ◌≤◌, ◌||◌, ◌&&◌, ◌⊎◌, not, Bool, true, false}
use Rattle.std.specs.Prelude.{if◌then◌else◌}
use Rattle.std.specs.Prelude.{List, [], ◌∷◌, ◌++◌, length, map, reverse, Option, Some, None, IfSome}
use Rattle.std.specs.Prelude.{Result, Ok, Err}
use Rattle.std.specs.Prelude.{string_bytes}
use Rattle.std.specs.Global.{Vec}
use Rattle.audit_run.specs.Paths.{path_in}
use Rattle.audit_lines.specs.declared.why.Refusal.{Refusal}
use Rattle.audit_lines.specs.declared.why.Refusal.TheVariants as refusals
use Rattle.audit_run.specs.Entries.{IsEntry}
use Rattle.audit_run.specs.Fact.{Breaks, Elsewhere, Fact, Lists}
use Rattle.audit_run.specs.Names.{AreWantedInOrder}
use Rattle.audit_run.specs.Search.{search_in, selects_every}
use Rattle.audit_run.specs.Visits.{Meets, Skipped, State, Visit, gives, passes, refused}
use Rattle.audit_run.specs.ZeroEnded.{most_bytes}
use Rattle.audit_run.specs.declared.files.Since.{Since}
use Rattle.audit_run.specs.declared.files.Skip.TheVariants as skips
use Rattle.audit_run.specs.declared.names.Listing.{Listing}
use Rattle.audit_run.specs.declared.search.Search.{Search}
use Rattle.audit_run.specs.declared.walk.Entered.{Entered}

-- A directory that was entered, which of its files are read, and its names that are left, of which
-- the last one is next.
pub record Level : Type 0 where
  pub path : List ℕ
  pub search : Search
  pub names : List (Vec ℕ)

-- ---- one step

-- Why the names of a directory at this path, which is named or was found, are not known: it cannot
-- be entered, its reader failed, or there are more bytes than are read.
pub data IsClosed (Knows : Fact → Type 0) (path : List ℕ) (named : Bool) (refusal : Refusal)
    : Type 0 where
  closed : Knows (Lists path named (Err refusal)) → IsClosed Knows path named refusal
  broken : (left : Option (List ℕ)) → Knows (Lists path named (Ok left))
      → Knows (Breaks path named refusal) → IsClosed Knows path named refusal
  too_many : (left : Option (List ℕ)) → Knows (Lists path named (Ok left))
      → IfSome left (λ bytes. most_bytes ≤ length bytes) → refusal ≡ refusals.TooLong
      → IsClosed Knows path named refusal

-- The names of it that an audit goes to, and how many it passes over.
pub record IsOpen (Knows : Fact → Type 0) (every : Bool) (path : List ℕ) (named : Bool)
    (names : List (Vec ℕ)) (skipped : ℕ) : Type 0 where
  pub left : Option (List ℕ)
  pub lists : Knows (Lists path named (Ok left))
  pub listed : IfSome left (λ bytes. AreWantedInOrder Knows every path bytes names skipped)

abbrev pub IsNamesOf : (Fact → Type 0) → (every : Bool) → List ℕ → (named : Bool)
    → Result Listing Refusal → Type 0
IsNamesOf Knows every path named (Ok listing) =
    IsOpen Knows every path named listing.names.items listing.skipped
IsNamesOf Knows every path named (Err refusal) = IsClosed Knows path named refusal

-- A directory at this path is not entered, or it is the last one that was entered.
pub data IsEntered (Knows : Fact → Type 0) (search : Search) (named : Bool) (path : List ℕ)
    (visits : List Visit) (levels : List Level) : Type 0 where
  not_entered : (refusal : Refusal) → IsClosed Knows path named refusal
      → visits ≡ refused path refusal → levels ≡ []
      → IsEntered Knows search named path visits levels
  entered : (names : List (Vec ℕ)) (skipped : ℕ)
      → IsOpen Knows (selects_every (search_in search path)) path named names skipped
      → visits ≡ Skipped skips.ByName skipped ∷ []
      → levels
      ≡ (record { path = path; search = search_in search path; names = reverse names }) ∷ []
      → IsEntered Knows search named path visits levels

-- A directory that was found is entered, or it is on another file system and the audit stays on
-- one.
pub data IsEnteredBelow (Knows : Fact → Type 0) (search : Search) (path : List ℕ)
    (visits : List Visit) (levels : List Level) : Type 0 where
  elsewhere : Knows (Elsewhere path true) → visits ≡ Skipped skips.Elsewhere 1 ∷ []
      → levels ≡ [] → IsEnteredBelow Knows search path visits levels
  entered_below : Knows (Elsewhere path false) → IsEntered Knows search false path visits levels
      → IsEnteredBelow Knows search path visits levels

-- The next name of the directory that was entered last leads to this, or it has no name left.
pub data Turn (Knows : Fact → Type 0) (search : Search)
    : List Level → List Visit → List Level → Type 0 where
  leaves : (levels : List Level) (last : Level) → last.names ≡ []
      → Turn Knows search (levels ++ last ∷ []) [] levels
  goes : (levels : List Level) (last : Level) (left : List (Vec ℕ)) (name : Vec ℕ)
      (visits : List Visit) → last.names ≡ left ++ name ∷ []
      → IsEntry Knows last.search last.path name.items false visits
      → Turn Knows search (levels ++ last ∷ []) visits
      (levels ++ (record last { names = left }) ∷ [])
  goes_down : (levels : List Level) (last : Level) (left : List (Vec ℕ)) (name : Vec ℕ)
      (visits : List Visit) (below : List Level) → last.names ≡ left ++ name ∷ []
      → IsEntry Knows last.search last.path name.items true []
      → IsEnteredBelow Knows search (path_in last.path name.items) visits below
      → Turn Knows search (levels ++ last ∷ []) visits
      ((levels ++ (record last { names = left }) ∷ []) ++ below)

-- so many steps, from these directories to those
pub data Turns (Knows : Fact → Type 0) (search : Search) (start : List Level)
    : ℕ → List Level → List Visit → Type 0 where
  none : Turns Knows search start 0 start []
  turned : (count : ℕ) (now next : List Level) (visits more : List Visit)
      → Turns Knows search start count now visits → Turn Knows search now more next
      → Turns Knows search start (count + 1) next (visits ++ more)

-- ---- a directory that is named

abbrev pub is_settled : Search → (gave passed : Bool) → Bool
is_settled search gave passed = gave || (selects_every search && not passed)

-- A directory that gives no file is not read, unless all files are read and there is none.
abbrev pub no_file : Search → List ℕ → (gave passed : Bool) → List Visit
no_file search path gave passed =
    if is_settled search gave passed then [] else refused path refusals.NoFile

-- the most steps
abbrev pub most_turns : ℕ
most_turns = 2 ^ 64 - 1

-- A directory that is named leads to this, with all below it: it was walked to its end, or so far,
-- or there was no end within the most steps.
pub data IsDirectory (Knows : Fact → Type 0) (search : Search) (whole : Bool) (path : List ℕ)
    (visits : List Visit) : Type 0 where
  before : whole ≡ false → visits ≡ [] → IsDirectory Knows search whole path visits
  stopped : (first rest : List Visit) (start now : List Level) (count : ℕ) → whole ≡ false
      → IsEntered Knows search true path first start → Turns Knows search start count now rest
      → visits ≡ first ++ rest → IsDirectory Knows search whole path visits
  walked : (first rest : List Visit) (start : List Level) (count : ℕ)
      → IsEntered Knows search true path first start → Turns Knows search start count [] rest
      → visits ≡ (first ++ rest)
      ++ no_file search path (gives (first ++ rest)) (passes (first ++ rest))
      → IsDirectory Knows search whole path visits
  endless : (first rest : List Visit) (start now : List Level) (count : ℕ)
      → IsEntered Knows search true path first start → Turns Knows search start count now rest
      → most_turns ≤ count
      → visits ≡ (first ++ rest) ++ refused path refusals.Read
      → IsDirectory Knows search whole path visits

-- ---- the directories that were entered, as they are held

abbrev pub level_of : Entered → Level
level_of held =
    record { path = string_bytes held.path; search = held.search; names = held.names.items }

abbrev pub levels_of : List Entered → List Level
levels_of all = map level_of all

abbrev pub level_in : Option Entered → List Level
level_in None = []
level_in (Some held) = level_of held ∷ []

-- A step was done, or had been begun at most.
abbrev pub MayTurn : (done : Bool) → (Fact → Type 0) → Search → List Level → List Level
    → List Visit → Type 0
MayTurn true Knows search now next visits = Turn Knows search now visits next
MayTurn false Knows search now next visits =
    ((other : List Level) × Turn Knows search now visits other) ⊎ (visits ≡ [])

-- ---- how far a walk is

-- nothing was met
abbrev pub nothing : Since
nothing = record { gave = false; passed = false }

-- the state in which a directory that is named is entered
abbrev pub entering : State → State
entering old = record old { since = nothing }

-- A directory at this path was entered, and so many steps were taken.
pub record Walked (Knows : Fact → Type 0) (search : Search) (path : List ℕ) (count : ℕ)
    (levels : List Level) (old new : State) : Type 0 where
  pub first : List Visit
  pub rest : List Visit
  pub start : List Level
  pub enters : IsEntered Knows search true path first start
  pub turns : Turns Knows search start count levels rest
  pub meets : Meets (first ++ rest) None old new
