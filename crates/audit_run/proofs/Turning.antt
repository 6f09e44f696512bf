-- The steps of a walk over directories.
use Rattle.std.proofs.Common.{◌≡◌, ℕ, ◌+◌, Bool, true, false, List, [], ◌∷◌, ◌++◌, length, Option, None, Some}
use Rattle.std.proofs.Common.{arith, Err, refl, sym, ap, subst, ◌∙◌, append_assoc, append-nil, inl, inr}
use Rattle.std.specs.Prelude.{is_some}
use Rattle.std.proofs.lemmas.List.{map-append}
use Rattle.std.specs.Global.{Vec}
use Rattle.audit_run.specs.Paths.{path_in}
use Rattle.audit_run.specs.Entries.{IsEntry, below, excluded, here, no_text, not_selected}
use Rattle.audit_run.specs.Fact.{Fact}
use Rattle.audit_run.specs.Visits.{AuditsBy, Begun, Meets, State, Visit}
use Rattle.audit_run.specs.Walk.{IsDirectory, IsEntered, IsEnteredBelow, Level, MayTurn, Turn, Turns, goes, goes_down, leaves}
use Rattle.audit_run.specs.Walk.{Walked, level_of, levels_of, none, turned, stopped}
use Rattle.audit_run.specs.declared.walk.Entered.{Entered}
use Rattle.audit_run.specs.declared.files.Since.{Since}
use Rattle.audit_run.specs.declared.stop.Stop.{Stop}
use Rattle.audit_run.specs.declared.stop.Stop.TheVariants as stops
use Rattle.audit_run.specs.declared.search.Search.{Search}
use Rattle.audit_run.proofs.Auditing.{meets_then, nothing_begun}

-- ---- one step

pub down_nothing : (Knows : Fact → Type 0) (search : Search) (directory name : List ℕ) (visits : List Visit)
    → IsEntry Knows search directory name true visits → visits ≡ []
down_nothing Knows search directory name visits (excluded out down is) = absurd (cc)
down_nothing Knows search directory name visits (no_text keeps bad down is) = absurd (cc)
down_nothing Knows search directory name visits (not_selected keeps utf8 never down is) = is
down_nothing Knows search directory name visits (below found keeps utf8 never leads dir down is) = is
down_nothing Knows search directory name visits (here looked target keeps utf8 never looks dir leads down is) = absurd (cc)

-- a name of the last directory was gone to, at most
pub entry_turn : (Knows : Fact → Type 0) (search : Search) (levels now : List Level) (last : Level) (left : List (Vec ℕ)) (name : Vec ℕ)
    (down : Bool) (visits : List Visit) → last.names ≡ left ++ name ∷ []
    → IsEntry Knows last.search last.path name.items down visits
    → MayTurn false Knows search (levels ++ last ∷ []) now visits
entry_turn Knows search levels now last left name true visits names is =
    inr (down_nothing Knows last.search last.path name.items visits is)
entry_turn Knows search levels now last left name false visits names is =
    inl (levels ++ (record last { names = left }) ∷ [], goes levels last left name visits names is)

pub entry_stopped : {X : Type 0} (Knows : Fact → Type 0) (search : Search) (levels now : List Level) (last : Level) (left : List (Vec ℕ))
    (name : Vec ℕ) (stop : Stop) (visits : List Visit) → last.names ≡ left ++ name ∷ []
    → Begun {A = Option X} (Err stop) (λ (down : Option X). IsEntry Knows last.search last.path name.items (is_some down)) visits
    → Begun {A = Unit {0}} (Err stop) (λ (done : Unit {0}). MayTurn false Knows search (levels ++ last ∷ []) now) visits
entry_stopped Knows search levels now last left name stop visits names (inl is) =
    inl (tt, entry_turn Knows search levels now last left name (is_some is.0) visits names is.1)
entry_stopped Knows search levels now last left name stop visits names (inr nothing) = inr nothing

-- a directory below was entered
pub down_turn : (Knows : Fact → Type 0) (search : Search) (levels : List Level) (last : Level) (left : List (Vec ℕ)) (name : Vec ℕ)
    (first visits : List Visit) (path : List ℕ) (deeper : List Level) → last.names ≡ left ++ name ∷ []
    → IsEntry Knows last.search last.path name.items true first → path ≡ path_in last.path name.items
    → IsEnteredBelow Knows search path visits deeper
    → Turn Knows search (levels ++ last ∷ []) (first ++ visits) ((levels ++ (record last { names = left }) ∷ []) ++ deeper)
down_turn Knows search levels last left name first visits path deeper names is at enters =
    let nothing = down_nothing Knows last.search last.path name.items first is in
    let there : IsEnteredBelow Knows search (path_in last.path name.items) visits deeper =
    subst (λ (p : List ℕ). IsEnteredBelow Knows search p visits deeper) at enters in
    let entry : IsEntry Knows last.search last.path name.items true [] =
    subst (λ (v : List Visit). IsEntry Knows last.search last.path name.items true v) nothing is in
    subst (λ (v : List Visit). Turn Knows search (levels ++ last ∷ []) (v ++ visits) ((levels ++ (record last { names = left }) ∷ []) ++ deeper))
    (sym nothing) (goes_down levels last left name visits deeper names entry there)

pub down_stopped : {X : Type 0} (Knows : Fact → Type 0) (search : Search) (levels now : List Level) (last : Level) (left : List (Vec ℕ))
    (name : Vec ℕ) (first visits : List Visit) (path : List ℕ) (stop : Stop) (level_of_it : Option X → List Level)
    → last.names ≡ left ++ name ∷ [] → IsEntry Knows last.search last.path name.items true first
    → path ≡ path_in last.path name.items
    → Begun {A = Option X} (Err stop) (λ (it : Option X) (v : List Visit). IsEnteredBelow Knows search path v (level_of_it it)) visits
    → Begun {A = Unit {0}} (Err stop) (λ (done : Unit {0}). MayTurn false Knows search (levels ++ last ∷ []) now) (first ++ visits)
down_stopped Knows search levels now last left name first visits path stop level_of_it names is at (inl enters) =
    inl (tt, inl (_, down_turn Knows search levels last left name first visits path (level_of_it enters.0) names is at enters.1))
down_stopped Knows search levels now last left name first visits path stop level_of_it names is at (inr nothing) =
    inr (ap (λ (v : List Visit). first ++ v) nothing ∙ append-nil first
    ∙ down_nothing Knows last.search last.path name.items first is)

-- the same with the directories that are held then
pub here_turn : (Knows : Fact → Type 0) (search : Search) (levels next : List Level) (last : Level) (left : List (Vec ℕ)) (name : Vec ℕ)
    (visits : List Visit) → last.names ≡ left ++ name ∷ [] → IsEntry Knows last.search last.path name.items false visits
    → next ≡ levels ++ (record last { names = left }) ∷ [] → Turn Knows search (levels ++ last ∷ []) visits next
here_turn Knows search levels next last left name visits names is held =
    subst (λ (n : List Level). Turn Knows search (levels ++ last ∷ []) visits n) (sym held)
    (goes levels last left name visits names is)

pub below_turn : (Knows : Fact → Type 0) (search : Search) (levels mid next : List Level) (last : Level) (left : List (Vec ℕ)) (name : Vec ℕ)
    (first visits : List Visit) (path : List ℕ) (deeper : List Level) → last.names ≡ left ++ name ∷ []
    → IsEntry Knows last.search last.path name.items true first → path ≡ path_in last.path name.items
    → IsEnteredBelow Knows search path visits deeper → mid ≡ levels ++ (record last { names = left }) ∷ []
    → next ≡ mid ++ deeper → Turn Knows search (levels ++ last ∷ []) (first ++ visits) next
below_turn Knows search levels mid next last left name first visits path deeper names is at enters held more =
    subst (λ (n : List Level). Turn Knows search (levels ++ last ∷ []) (first ++ visits) n)
    (sym (more ∙ ap (λ (l : List Level). l ++ deeper) held))
    (down_turn Knows search levels last left name first visits path deeper names is at enters)

pub no_more : {X : Type 0} (xs : List X) → length xs ≡ 0 → xs ≡ []
no_more [] is = refl
no_more (x ∷ xs) is = absurd (omega (arith, is))

pub leave_turn : (Knows : Fact → Type 0) (search : Search) (levels : List Level) (last : Level) → last.names ≡ []
    → Turn Knows search (levels ++ last ∷ []) [] levels
leave_turn Knows search levels last none_left = leaves levels last none_left

-- an allocation failed after this was met
pub met_then_out : (visits : List Visit) (old mid : State) → Meets visits None old mid → Meets visits (Some stops.NoMemory) old mid
met_then_out visits old mid meets =
    subst (λ (v : List Visit). Meets v (Some stops.NoMemory) old mid) (append-nil visits)
    (meets_then visits [] (Some stops.NoMemory) old mid mid meets (nothing_begun mid))

-- ---- the directories that were entered

pub levels_more : (all : List Entered) (last : Entered) → levels_of (all ++ last ∷ []) ≡ levels_of all ++ level_of last ∷ []
levels_more all last = map-append level_of all (last ∷ [])

-- ---- a directory that is named

-- the state in which a directory that is named is entered
pub since_begun : (visits : List Visit) (stop : Option Stop) (old new : State) (since : Since)
    → AuditsBy visits stop (record old { since = since }) new → AuditsBy visits stop old new
since_begun visits stop old new since by = record {
  judge = by.judge;
  audits = λ answers judges.
      let was = by.audits answers judges in
      record { says = was.says; tallies = was.tallies; timely = was.timely; quiet = was.quiet; writer = was.writer };
}

pub walk_begun : (Knows : Fact → Type 0) (search : Search) (path : List ℕ) (visits : List Visit) (levels : List Level) (old new : State)
    → IsEntered Knows search true path visits levels → Meets visits None old new → Walked Knows search path 0 levels old new
walk_begun Knows search path visits levels old new enters meets = record {
  first = visits;
  rest = [];
  start = levels;
  enters = enters;
  turns = none;
  meets = subst (λ (v : List Visit). Meets v None old new) (sym (append-nil visits)) meets;
}

pub walked_more : (Knows : Fact → Type 0) (search : Search) (path : List ℕ) (count : ℕ) (levels next : List Level) (more : List Visit)
    (old mid new : State) → Walked Knows search path count levels old mid → Turn Knows search levels more next
    → Meets more None mid new → Walked Knows search path (count + 1) next old new
walked_more Knows search path count levels next more old mid new walked turn meets = record {
  first = walked.first;
  rest = walked.rest ++ more;
  start = walked.start;
  enters = walked.enters;
  turns = turned count levels next walked.rest more walked.turns turn;
  meets = subst (λ (v : List Visit). Meets v None old new) (append_assoc walked.first walked.rest more)
      (meets_then (walked.first ++ walked.rest) more None old mid new walked.meets meets);
}

-- the walk was stopped within a step
turn_in : (Knows : Fact → Type 0) (search : Search) (start levels now : List Level) (count : ℕ) (rest more : List Visit) (stop : Stop)
    → Turns Knows search start count levels rest
    → Begun {A = Unit {0}} (Err stop) (λ (done : Unit {0}). MayTurn false Knows search levels now) more
    → (next : List Level) × (n : ℕ) × Turns Knows search start n next (rest ++ more)
turn_in Knows search start levels now count rest more stop turns (inl (done, inl (other, turn))) =
    (other, count + 1, turned count levels other rest more turns turn)
turn_in Knows search start levels now count rest more stop turns (inl (done, inr nothing)) = (
  levels,
  count,
  subst (λ (v : List Visit). Turns Knows search start count levels v)
      (sym (ap (λ (v : List Visit). rest ++ v) nothing ∙ append-nil rest)) turns,
)
turn_in Knows search start levels now count rest more stop turns (inr nothing) = (
  levels,
  count,
  subst (λ (v : List Visit). Turns Knows search start count levels v)
      (sym (ap (λ (v : List Visit). rest ++ v) nothing ∙ append-nil rest)) turns,
)

pub walk_stopped : (Knows : Fact → Type 0) (search : Search) (path : List ℕ) (count : ℕ) (levels now : List Level) (more : List Visit)
    (stop : Stop) (old mid new : State) → Walked Knows search path count levels old mid
    → Begun {A = Unit {0}} (Err stop) (λ (done : Unit {0}). MayTurn false Knows search levels now) more
    → Meets more (Some stop) mid new
    → (visits : List Visit) × IsDirectory Knows search false path visits × Meets visits (Some stop) old new
walk_stopped Knows search path count levels now more stop old mid new walked is meets =
    let there = turn_in Knows search walked.start levels now count walked.rest more stop walked.turns is in
    let all = append_assoc walked.first walked.rest more in (
      (walked.first ++ walked.rest) ++ more,
      stopped walked.first (walked.rest ++ more) walked.start there.0 there.1 refl walked.enters there.2 all,
      meets_then (walked.first ++ walked.rest) more (Some stop) old mid new walked.meets meets,
    )
