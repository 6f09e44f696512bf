-- A walk that comes to its end has gone to each name of each directory that it entered.
use Rattle.std.proofs.Common.{◌≡◌, ℕ, Bool, true, false, List, [], ◌∷◌, ◌++◌, inl, inr}
use Rattle.std.proofs.Common.{refl, sym, ap, subst, ◌∙◌, arith}
use Rattle.std.proofs.lemmas.List.Elements.{Contains-append_cases, Contains-append_left, Contains-append_right, Contains-push}
use Rattle.std.proofs.lemmas.List.Elements.{Contains-push_cases}
use Rattle.std.specs.Global.{Vec}
use Rattle.std.specs.Prelude.{Contains}
use Rattle.audit_run.specs.Paths.{path_in}
use Rattle.audit_run.specs.Entries.{IsEntry}
use Rattle.audit_run.specs.Fact.{Fact}
use Rattle.audit_run.specs.Visits.{Visit}
use Rattle.audit_run.specs.Walk.{IsEnteredBelow, Level, Turn, Turns, goes, goes_down, leaves, none, turned}
use Rattle.audit_run.specs.declared.search.Search.{Search}

-- ---- parts of a list

abbrev pub IsPartOf : {X : Type 0} → List X → List X → Type 0
IsPartOf {X} some all = (x : X) → Contains some x → Contains all x

pub not_in_nothing : {X : Type 0} (x : X) → Contains [] x → ⊥
not_in_nothing x is = omega (arith, is.1)

pub one_of_one : {X : Type 0} (y x : X) → Contains (y ∷ []) x → y ≡ x
one_of_one {X} y x is = elim (Contains-push_cases [] y x is) [
  | inl nothing ↦ absurd (not_in_nothing x nothing)
  | inr same ↦ same
]

-- ---- a name of a directory that was entered

-- A name of a directory that was entered is left in one of these, or it was gone to: it led to no
-- directory, or to one of which all names are among those that were had.
pub data CoversName (Knows : Fact → Type 0) (search : Search) (now had : List Level) (visits : List Visit) (level : Level) (name : Vec ℕ)
    : Type 0 where
  waits : (at : Level) → Contains now at → at.path ≡ level.path → at.search ≡ level.search → Contains at.names name
      → CoversName Knows search now had visits level name
  went : (some : List Visit) → IsEntry Knows level.search level.path name.items false some → IsPartOf some visits
      → CoversName Knows search now had visits level name
  below : (some : List Visit) (deeper : List Level) → IsEntry Knows level.search level.path name.items true []
      → IsEnteredBelow Knows search (path_in level.path name.items) some deeper → IsPartOf some visits → IsPartOf deeper had
      → CoversName Knows search now had visits level name

-- The directories that were had are those at the start and all that were entered since.
pub record Covers (Knows : Fact → Type 0) (search : Search) (start now had : List Level) (visits : List Visit) : Type 0 where
  pub starts : IsPartOf start had
  pub names : (level : Level) → Contains had level → (name : Vec ℕ) → Contains level.names name
      → CoversName Knows search now had visits level name

-- what is left in one directory may be left in another one, or was gone to
covers_on : (Knows : Fact → Type 0) (search : Search) (now next had more : List Level) (visits all : List Visit) (level : Level) (name : Vec ℕ)
    → IsPartOf visits all → IsPartOf had more
    → ((at : Level) → Contains now at → at.path ≡ level.path → at.search ≡ level.search → Contains at.names name
    → CoversName Knows search next more all level name)
    → CoversName Knows search now had visits level name → CoversName Knows search next more all level name
covers_on Knows search now next had more visits all level name part grows moves (waits at is_at path search_is left) =
    moves at is_at path search_is left
covers_on Knows search now next had more visits all level name part grows moves (went some is there) =
    went some is (λ x is_x. part x (there x is_x))
covers_on Knows search now next had more visits all level name part grows moves (below some deeper is enters there had_them) =
    below some deeper is enters (λ x is_x. part x (there x is_x)) (λ x is_x. grows x (had_them x is_x))

-- the same entry of the same directory, in other words
entry_as : (Knows : Fact → Type 0) (last level : Level) (name other : Vec ℕ) (down : Bool) (visits : List Visit)
    → last.path ≡ level.path → last.search ≡ level.search → name ≡ other → IsEntry Knows last.search last.path name.items down visits
    → IsEntry Knows level.search level.path other.items down visits
entry_as Knows last level name other down visits path search same is =
    subst (λ (n : Vec ℕ). IsEntry Knows level.search level.path n.items down visits) same
    (subst (λ (p : List ℕ). IsEntry Knows level.search p name.items down visits) path
    (subst (λ (e : Search). IsEntry Knows e last.path name.items down visits) search is))

entered_as : (Knows : Fact → Type 0) (search : Search) (last level : Level) (name other : Vec ℕ) (visits : List Visit) (deeper : List Level)
    → last.path ≡ level.path → name ≡ other → IsEnteredBelow Knows search (path_in last.path name.items) visits deeper
    → IsEnteredBelow Knows search (path_in level.path other.items) visits deeper
entered_as Knows search last level name other visits deeper path same is =
    subst (λ (n : Vec ℕ). IsEnteredBelow Knows search (path_in level.path n.items) visits deeper) same
    (subst (λ (p : List ℕ). IsEnteredBelow Knows search (path_in p name.items) visits deeper) path is)

names_at : (at last : Level) (name : Vec ℕ) → last ≡ at → Contains at.names name → Contains last.names name
names_at at last name same left = subst (λ (l : Level). Contains l.names name) (sym same) left

-- ---- one step

turn_covers : (Knows : Fact → Type 0) (search : Search) (start now next had : List Level) (visits more : List Visit)
    → Covers Knows search start now had visits → Turn Knows search now more next
    → (grown : List Level) × Covers Knows search start next grown (visits ++ more)
turn_covers Knows search start _ next had visits _ was (leaves levels last none_left) = (
  had,
  record {
    starts = was.starts;
    names = λ level is_level name is_name.
        covers_on Knows search (levels ++ last ∷ []) levels had had visits (visits ++ []) level name
        (λ x is_x. Contains-append_left visits [] x is_x) (λ x is_x. is_x)
        (λ at is_at path search_is left. elim (Contains-push_cases levels last at is_at) [
          | inl there ↦ waits at there path search_is left
          | inr same ↦
              let here : Contains last.names name = names_at at last name same left in
              let nothing : Contains [] name = subst (λ (names : List (Vec ℕ)). Contains names name) none_left here in
              absurd (not_in_nothing name nothing)
        ])
        (was.names level is_level name is_name);
  },
)
turn_covers Knows search start _ _ had visits _ was (goes levels last left name more names is) =
    let after : Level = record last { names = left } in (
      had,
      record {
        starts = was.starts;
        names = λ level is_level other is_other.
            covers_on Knows search (levels ++ last ∷ []) (levels ++ after ∷ []) had had visits (visits ++ more) level other
            (λ x is_x. Contains-append_left visits more x is_x) (λ x is_x. is_x)
            (λ at is_at path search_is waiting. elim (Contains-push_cases levels last at is_at) [
              | inl there ↦ waits at (Contains-append_left levels (after ∷ []) at there) path search_is waiting
              | inr same ↦
                  let path_of : last.path ≡ level.path = ap (λ (l : Level). l.path) same ∙ path in
                  let search_of_it : last.search ≡ level.search = ap (λ (l : Level). l.search) same ∙ search_is in
                  let here : Contains (left ++ name ∷ []) other =
                  subst (λ (ns : List (Vec ℕ)). Contains ns other) names (names_at at last other same waiting) in
                  elim (Contains-push_cases left name other here) [
                    | inl still ↦ waits after (Contains-push levels after) path_of search_of_it still
                    | inr it ↦ went more (entry_as Knows last level name other false more path_of search_of_it it is)
                        (λ x is_x. Contains-append_right visits more x is_x)
                  ]
            ])
            (was.names level is_level other is_other);
      },
    )
turn_covers Knows search start _ _ had visits _ was (goes_down levels last left name more deeper names is enters) =
    let after : Level = record last { names = left } in
    let next : List Level = (levels ++ after ∷ []) ++ deeper in (
      had ++ deeper,
      record {
        starts = λ level is_level. Contains-append_left had deeper level (was.starts level is_level);
        names = λ level is_level other is_other. elim (Contains-append_cases had deeper level is_level) [
          | inl before ↦
              covers_on Knows search (levels ++ last ∷ []) next had (had ++ deeper) visits (visits ++ more) level other
              (λ x is_x. Contains-append_left visits more x is_x) (λ x is_x. Contains-append_left had deeper x is_x)
              (λ at is_at path search_is waiting. elim (Contains-push_cases levels last at is_at) [
                | inl there ↦
                    waits at (Contains-append_left (levels ++ after ∷ []) deeper at (Contains-append_left levels (after ∷ []) at there))
                    path search_is waiting
                | inr same ↦
                    let path_of : last.path ≡ level.path = ap (λ (l : Level). l.path) same ∙ path in
                    let search_of_it : last.search ≡ level.search = ap (λ (l : Level). l.search) same ∙ search_is in
                    let here : Contains (left ++ name ∷ []) other =
                    subst (λ (ns : List (Vec ℕ)). Contains ns other) names (names_at at last other same waiting) in
                    elim (Contains-push_cases left name other here) [
                      | inl still ↦
                          waits after (Contains-append_left (levels ++ after ∷ []) deeper after (Contains-push levels after))
                          path_of search_of_it still
                      | inr it ↦
                          below more deeper (entry_as Knows last level name other true [] path_of search_of_it it is)
                          (entered_as Knows search last level name other more deeper path_of it enters)
                          (λ x is_x. Contains-append_right visits more x is_x) (λ x is_x. Contains-append_right had deeper x is_x)
                    ]
              ])
              (was.names level before other is_other)
          | inr new ↦ waits level (Contains-append_right (levels ++ after ∷ []) deeper level new) refl refl is_other
        ];
      },
    )

-- ---- all steps

pub turns_cover : (Knows : Fact → Type 0) (search : Search) (start now : List Level) (count : ℕ) (visits : List Visit)
    → Turns Knows search start count now visits → (had : List Level) × Covers Knows search start now had visits
turns_cover Knows search start _ _ _ none =
    (start, record { starts = λ level is_level. is_level; names = λ level is_level name is_name. waits level is_level refl refl is_name })
turns_cover Knows search start _ _ _ (turned count now next visits more turns turn) =
    let was = turns_cover Knows search start now count visits turns in
    turn_covers Knows search start now next was.0 visits more was.1 turn

-- at the end no name is left
pub data IsGoneTo (Knows : Fact → Type 0) (search : Search) (had : List Level) (visits : List Visit) (level : Level) (name : Vec ℕ) : Type 0
  where
    gone : (some : List Visit) → IsEntry Knows level.search level.path name.items false some → IsPartOf some visits
        → IsGoneTo Knows search had visits level name
    gone_down : (some : List Visit) (deeper : List Level) → IsEntry Knows level.search level.path name.items true []
        → IsEnteredBelow Knows search (path_in level.path name.items) some deeper → IsPartOf some visits → IsPartOf deeper had
        → IsGoneTo Knows search had visits level name

all_gone : (Knows : Fact → Type 0) (search : Search) (had : List Level) (visits : List Visit) (level : Level) (name : Vec ℕ)
    → CoversName Knows search [] had visits level name → IsGoneTo Knows search had visits level name
all_gone Knows search had visits level name (waits at is_at path search_is left) = absurd (not_in_nothing at is_at)
all_gone Knows search had visits level name (went some is there) = gone some is there
all_gone Knows search had visits level name (below some deeper is enters there had_them) = gone_down some deeper is enters there had_them

pub record IsWalked (Knows : Fact → Type 0) (search : Search) (start had : List Level) (visits : List Visit) : Type 0 where
  pub starts : IsPartOf start had
  pub names : (level : Level) → Contains had level → (name : Vec ℕ) → Contains level.names name
      → IsGoneTo Knows search had visits level name

pub walk_covers : (Knows : Fact → Type 0) (search : Search) (start : List Level) (count : ℕ) (visits : List Visit)
    → Turns Knows search start count [] visits → (had : List Level) × IsWalked Knows search start had visits
walk_covers Knows search start count visits turns =
    let all = turns_cover Knows search start [] count visits turns in (
      all.0,
      record {
        starts = all.1.starts;
        names = λ level is_level name is_name. all_gone Knows search all.0 visits level name (all.1.names level is_level name is_name);
      },
    )
