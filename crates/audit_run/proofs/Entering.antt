-- A name of a directory, and where it leads.
use Rattle.std.proofs.Common.{◌≡◌, ℕ, Bool, false, List, Option, None, Result, Err, refl, inl, inr}
use Rattle.std.specs.Str.{IsUtf8}
use Rattle.audit_run.specs.Search.{name_in, selects_every}
use Rattle.audit_run.specs.Selection.{selection_of}
use Rattle.audit_run.specs.Paths.{path_in}
use Rattle.audit_run.specs.declared.selection.Selection.{Selection}
use Rattle.audit_lines.specs.declared.why.Refusal.{Refusal}
use Rattle.audit_run.specs.Entries.{IsEntry, IsTarget, VisitsTarget, here, is_always, is_expected}
use Rattle.audit_run.specs.Names.{is_directory, is_never}
use Rattle.audit_run.specs.Fact.{Excludes, Fact, Leads}
use Rattle.audit_run.specs.Visits.{Begun, Visit}
use Rattle.audit_run.specs.declared.file_kind.Found.{Found}
use Rattle.audit_run.specs.declared.stop.Stop.{Stop}
use Rattle.audit_run.specs.declared.search.Search.{Search}

-- it leads to no directory
pub entry_here : (Knows : Fact → Type 0) (search : Search) (directory name at other : List ℕ) (selection : Selection)
    (by_name expected : Bool) (looked target : Result Found Refusal) (visits : List Visit) → Knows (Excludes name false) → IsUtf8 name
    → at ≡ path_in directory name → other ≡ path_in directory name → selection ≡ selection_of (selects_every search) name
    → by_name ≡ is_always selection → expected ≡ is_expected directory name → is_never selection ≡ false → Knows (Leads at false looked)
    → is_directory looked ≡ false → IsTarget Knows other looked target → VisitsTarget Knows (name_in search other) by_name expected target visits
    → IsEntry Knows search directory name false visits
entry_here Knows search directory name at other selection by_name expected looked target visits keeps utf8 at_is other_is chosen by wants never
    looks is leads met =
    here looked target keeps utf8 (rw chosen at never) (rw at_is at looks) is (rw other_is at leads) refl
    (rw (other_is, by, chosen, wants) at met)

-- an audit that stopped had begun this at most
pub begun_none : {X : Type 0} (stop : Stop) (Is : List Visit → Type 0) (Also : Option X → List Visit → Type 0) (visits : List Visit)
    → (Is visits → Also None visits) → Begun {A = Unit {0}} (Err stop) (λ (done : Unit {0}). Is) visits
    → Begun {A = Option X} (Err stop) Also visits
begun_none stop Is Also visits goes (inl is) = inl (None, goes is.1)
begun_none stop Is Also visits goes (inr none) = inr none
