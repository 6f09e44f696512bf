-- Each wanted file below a directory that is walked to its end has its visit, unless something is unread.
use Rattle.std.proofs.Common.{◌≡◌, ℕ, Bool, true, false, List, [], ◌∷◌, ◌++◌, ◌⊎◌, inl, inr, Option, Some, None, Result, Ok, Err}
use Rattle.std.proofs.Common.{refl, sym, ap, subst, ◌∙◌}
use Rattle.std.proofs.lemmas.List.Elements.{Contains-append_left, Contains-append_right, Contains-push}
use Rattle.std.proofs.lemmas.List.Elements.{Contains-append_cases}
use Rattle.std.proofs.lemmas.List.Sorted.{Contains-permutation, IsPermutation-reverse}
use Rattle.std.specs.Global.{Vec}
use Rattle.std.specs.Prelude.{Contains, IfSome, reverse}
use Rattle.std.specs.Str.{IsUtf8}
use Rattle.audit_run.specs.Selection.{is_sought, selection_of}
use Rattle.audit_run.specs.Paths.{path_in}
use Rattle.audit_run.specs.declared.selection.Selection.{Selection}
use Rattle.key_text.specs.Armour.{begins_container}
use Rattle.audit_lines.specs.declared.why.Refusal.{Refusal}
use Rattle.audit_lines.specs.declared.why.Refusal.TheVariants as refusals
use Rattle.audit_run.specs.Below.{HasName, IsBelow, IsFileBelow, IsSelected, IsSteady, IsVisitOf, LeadsToFile, SomeUnread, SomeVisit}
use Rattle.audit_run.specs.Below.{by_front, by_name, deeper, itself, linked, regular}
use Rattle.audit_run.specs.Entries.{IsEntry, IsOpened, IsPrivateFile, IsTarget, VisitsTarget, is_always, is_expected}
use Rattle.audit_run.specs.Entries.{behind as behind_link, below, excluded, here, irregular}
use Rattle.audit_run.specs.Entries.{itself as not_linked, link_to_directory, no_text, not_opened}
use Rattle.audit_run.specs.Entries.{not_regular, not_selected, null_device, other as passed_file, private, private_only, read}
use Rattle.audit_run.specs.Entries.{regular as whole, same as seen_before, unread, unseen}
use Rattle.audit_run.specs.Fact.{Elsewhere, Excludes, Fact, Leads, OpenFile, Opens}
use Rattle.audit_run.specs.Names.{AreWanted, IsWanted, MayBeDirectory, behind, dots, excluded_name, is_directory, is_directory_kind, is_dots, is_irregular, is_link, is_link_kind, is_never}
use Rattle.audit_run.specs.Names.{left_out, looked_at, no_name, not_looked_at, selected, taken}
use Rattle.audit_run.specs.Names.{no_text as no_text_name, not_selected as not_selected_name}
use Rattle.audit_run.specs.Reading.{front_of}
use Rattle.krl_audit.specs.Audit.{own_name}
use Rattle.audit_run.specs.Search.{name_in, search_in, selects_every}
use Rattle.audit_run.specs.Visits.{Audited, Visit, refused}
use Rattle.audit_run.specs.Walk.{IsDirectory, IsEntered, IsEnteredBelow, IsOpen, Level, Turns, before, elsewhere, endless, entered, entered_below, not_entered, stopped, walked}
use Rattle.audit_run.specs.ZeroEnded.{names_after}
use Rattle.audit_run.specs.declared.file_kind.FileKind.{FileKind}
use Rattle.audit_run.specs.declared.file_kind.FileKind.TheVariants as kinds
use Rattle.audit_run.specs.declared.file_kind.Found.{Found}
use Rattle.audit_run.specs.declared.search.Search.{Search}
use Rattle.audit_run.proofs.Covering.{IsGoneTo, IsPartOf, IsWalked, gone, gone_down, not_in_nothing, one_of_one, walk_covers}

-- ---- lists

in_cons : {X : Type 0} (y : X) (xs : List X) (x : X) → Contains (y ∷ xs) x → (y ≡ x) ⊎ Contains xs x
in_cons {X} y xs x is = elim (Contains-append_cases (y ∷ []) xs x is) [
  | inl first ↦ inl (one_of_one y x first)
  | inr rest ↦ inr rest
]

at_head : {X : Type 0} (x : X) (xs : List X) → Contains (x ∷ xs) x
at_head {X} x xs = Contains-append_left (x ∷ []) xs x (Contains-push [] x)

in_tail : {X : Type 0} (y : X) (xs : List X) (x : X) → Contains xs x → Contains (y ∷ xs) x
in_tail {X} y xs x is = Contains-append_right (y ∷ []) xs x is

-- ---- what was not read

one_unread : (visits all : List Visit) (path : List ℕ) (refusal : Refusal) → visits ≡ refused path refusal → IsPartOf visits all
    → SomeUnread all
one_unread visits all path refusal is part =
    let one : Visit = Audited None (own_name path) (Err refusal) in
    (own_name path, refusal, part one (subst (λ (v : List Visit). Contains v one) (sym is) (at_head one [])))

-- ---- a visit of a path

one_visit : (visits : List Visit) (path : List ℕ) (visit : Visit) → visits ≡ visit ∷ [] → IsVisitOf path visit → SomeVisit path visits
one_visit visits path visit is of = (visit, (subst (λ (v : List Visit). Contains v visit) (sym is) (at_head visit []), of))

opened_visit : (Knows : Fact → Type 0) (search : Search) (path : List ℕ) (held : OpenFile) (visits : List Visit)
    → IsOpened Knows (name_in search path) held.identity held.bytes visits → SomeVisit path visits
opened_visit Knows search path held visits (read is) = one_visit visits path _ is.visits_are refl
opened_visit Knows search path held visits (seen_before told is) = one_visit visits path _ is refl

not_both : (b : Bool) → b ≡ true → b ≡ false → ⊥
not_both true holds fails = cc
not_both false holds fails = cc

begins_known : (bytes : List ℕ) (known : Option (List ℕ)) (value : Bool) → known ≡ Some bytes
    → IfSome known (λ all. begins_container (front_of all) ≡ value) → begins_container (front_of bytes) ≡ value
begins_known bytes None value is begins = absurd (cc)
begins_known bytes (Some all) value is begins =
    let same : all ≡ bytes = cc in
    subst (λ (b : List ℕ). begins_container (front_of b) ≡ value) same begins

private_file_visit : (Knows : Fact → Type 0) (search : Search) (path : List ℕ) (held : OpenFile) (bytes : List ℕ) (visits : List Visit)
    → held.bytes ≡ Some bytes → begins_container (front_of bytes) ≡ true
    → IsPrivateFile Knows (name_in search path) held.identity held.bytes visits → SomeVisit path visits
private_file_visit Knows search path held bytes visits known begins (private front is) = opened_visit Knows search path held visits is
private_file_visit Knows search path held bytes visits known begins (passed_file front is) =
    absurd (not_both (begins_container (front_of bytes)) begins (begins_known bytes held.bytes false known front))
private_file_visit Knows search path held bytes visits known begins (unread refusal fails is) = one_visit visits path _ is refl

private_visit : (Knows : Fact → Type 0) (search : Search) (path : List ℕ) (selection : Selection) (file found : Found) (held : OpenFile) (visits : List Visit)
    → IsSteady Knows → found ≡ file → Knows (Opens path (Some found) (Ok held)) → is_always selection ≡ false
    → IsSelected Knows path file selection → IsPrivateFile Knows (name_in search path) held.identity held.bytes visits → SomeVisit path visits
private_visit Knows search path _ file found held visits steady same opens only by_name is = absurd (cc)
private_visit Knows search path _ file found held visits steady same opens only (by_front other bytes opened known begins) is =
    let there : Knows (Opens path (Some file) (Ok held)) = subst (λ (f : Found). Knows (Opens path (Some f) (Ok held))) same opens in
    let both : Ok held ≡ Ok other = steady.opens path (Some file) (Ok held) (Ok other) there opened in
    let it : held ≡ other = cc in
    private_file_visit Knows search path held bytes visits (ap (λ (o : OpenFile). o.bytes) it ∙ known) begins is

target_visit : (Knows : Fact → Type 0) (search : Search) (path : List ℕ) (selection : Selection) (expected : Bool) (file : Found)
    (target : Result Found Refusal) (visits : List Visit) → IsSteady Knows → target ≡ Ok file → file.kind ≡ kinds.File
    → IsSelected Knows path file selection → VisitsTarget Knows (name_in search path) (is_always selection) expected target visits → SomeVisit path visits
target_visit Knows search path selection expected file target visits steady is_file kind selects (unseen refusal so is) =
    one_visit visits path _ is refl
target_visit Knows search path selection expected file target visits steady is_file kind selects (not_opened found refusal so kind_is opens is) =
    one_visit visits path _ is refl
target_visit Knows search path selection expected file target visits steady is_file kind selects (not_regular found held so kind_is opens no_file is) =
    one_visit visits path _ is refl
target_visit Knows search path selection expected file target visits steady is_file kind selects (whole found held so kind_is opens still by is) =
    opened_visit Knows search path held visits is
target_visit Knows search path selection expected file target visits steady is_file kind selects
    (private_only found held so kind_is opens still only is) =
    let same : found ≡ file = cc in
    private_visit Knows search path selection file found held visits steady same opens only selects is
target_visit Knows search path selection expected file target visits steady is_file kind selects (null_device found so kind_is is) =
    let same : found ≡ file = cc in
    let bad : kinds.Null ≡ kinds.File = sym kind_is ∙ ap (λ (f : Found). f.kind) same ∙ kind in
    absurd (cc)
target_visit Knows search path selection expected file target visits steady is_file kind selects (irregular found so kind_is is) =
    let same : found ≡ file = cc in
    let bad : is_irregular found.kind ≡ false =
    ap (λ (f : Found). is_irregular f.kind) same ∙ ap (λ (k : FileKind). is_irregular k) kind in
    absurd (not_both (is_irregular found.kind) kind_is bad)

link_at : (Knows : Fact → Type 0) (path : List ℕ) (looked : Result Found Refusal) (found : Found) (kind : FileKind) → IsSteady Knows
    → Knows (Leads path false looked) → Knows (Leads path false (Ok found)) → found.kind ≡ kind → is_link looked ≡ is_link_kind kind
link_at Knows path looked found kind steady looks leads is =
    ap (λ (l : Result Found Refusal). is_link l) (steady.leads path false looked (Ok found) looks leads)
    ∙ ap (λ (k : FileKind). is_link_kind k) is

target_is : (Knows : Fact → Type 0) (path : List ℕ) (looked target : Result Found Refusal) (file : Found) → IsSteady Knows
    → Knows (Leads path false looked) → LeadsToFile Knows path file → file.kind ≡ kinds.File → IsTarget Knows path looked target
    → target ≡ Ok file
target_is Knows path looked target file steady looks (regular found) kind (not_linked no_link is) =
    is ∙ steady.leads path false looked (Ok file) looks found
target_is Knows path looked target file steady looks (regular found) kind (behind_link link leads no_directory) =
    absurd (not_both (is_link looked) link (link_at Knows path looked file kinds.File steady looks found kind))
target_is Knows path looked target file steady looks (regular found) kind (link_to_directory other link leads is_dir is) =
    absurd (not_both (is_link looked) link (link_at Knows path looked file kinds.File steady looks found kind))
target_is Knows path looked target file steady looks (linked link found kind_is followed) kind (not_linked no_link is) =
    absurd (not_both (is_link looked) (link_at Knows path looked link kinds.Link steady looks found kind_is) no_link)
target_is Knows path looked target file steady looks (linked link found kind_is followed) kind (behind_link is_there leads no_directory) =
    steady.leads path true target (Ok file) leads followed
target_is Knows path looked target file steady looks (linked link found kind_is followed) kind (link_to_directory other is_there leads is_dir is) =
    let bad : is_directory other ≡ false =
    ap (λ (l : Result Found Refusal). is_directory l) (steady.leads path true other (Ok file) leads followed)
    ∙ ap (λ (k : FileKind). is_directory_kind k) kind in
    absurd (not_both (is_directory other) is_dir bad)

-- ---- a name that is wanted is gone to

directory_link : (kind : FileKind) → kind ≡ kinds.Directory → is_link_kind kind ≡ true → ⊥
directory_link kind is link = let so : is_link_kind kinds.Directory ≡ true = subst (λ (k : FileKind). is_link_kind k ≡ true) is link in cc

may_not : (Knows : Fact → Type 0) (sought : Bool) (path : List ℕ) (found : Found) → IsSteady Knows → Knows (Leads path false (Ok found))
    → found.kind ≡ kinds.Directory → MayBeDirectory Knows sought path false → ⊥
may_not Knows sought path found steady leads kind (not_looked_at refusal looked may) = absurd (cc)
may_not Knows sought path found steady leads kind (looked_at found_too looked link may) =
    let same : Ok found_too ≡ Ok found = steady.leads path false (Ok found_too) (Ok found) looked leads in
    let it : found_too ≡ found = cc in
    let directory : is_directory_kind found_too.kind ≡ true =
    ap (λ (f : Found). is_directory_kind f.kind) it ∙ ap (λ (k : FileKind). is_directory_kind k) kind in
    cc
may_not Knows sought path found steady leads kind (behind found_too looked link_is may) =
    let same : Ok found_too ≡ Ok found = steady.leads path false (Ok found_too) (Ok found) looked leads in
    let it : found_too ≡ found = cc in
    directory_link found_too.kind (ap (λ (f : Found). f.kind) it ∙ kind) link_is

-- a name that leads to a directory is wanted
directory_wanted : (Knows : Fact → Type 0) (every : Bool) (path name : List ℕ) (found : Found) → IsSteady Knows → is_dots name ≡ false
    → IsUtf8 name → Knows (Leads (path_in path name) false (Ok found)) → found.kind ≡ kinds.Directory
    → IsWanted Knows every path false name → ⊥
directory_wanted Knows every path name found steady no_dots text leads kind (dots is wanted) = cc
directory_wanted Knows every path name found steady no_dots text leads kind (excluded_name not_dots leaves wanted) = cc
directory_wanted Knows every path name found steady no_dots text leads kind (selected not_dots keeps never wanted) = cc
directory_wanted Knows every path name found steady no_dots text leads kind (no_text_name not_dots keeps never bad wanted) = cc
directory_wanted Knows every path name found steady no_dots text leads kind (not_selected_name not_dots keeps never utf8 may) =
    may_not Knows (is_sought name) (path_in path name) found steady leads kind may

-- so is one that is selected
selected_wanted : (Knows : Fact → Type 0) (every : Bool) (path name : List ℕ) → is_dots name ≡ false
    → is_never (selection_of every name) ≡ false → IsWanted Knows every path false name → ⊥
selected_wanted Knows every path name no_dots chosen (dots is wanted) = cc
selected_wanted Knows every path name no_dots chosen (excluded_name not_dots leaves wanted) = cc
selected_wanted Knows every path name no_dots chosen (selected not_dots keeps never wanted) = cc
selected_wanted Knows every path name no_dots chosen (no_text_name not_dots keeps never bad wanted) = cc
selected_wanted Knows every path name no_dots chosen (not_selected_name not_dots keeps never utf8 may) = cc

are_taken : (Knows : Fact → Type 0) (every : Bool) (path name : List ℕ) (names : List (List ℕ)) (wanted : List (Vec ℕ)) (skipped : ℕ)
    → AreWanted Knows every path names wanted skipped → Contains names name → (IsWanted Knows every path false name → ⊥)
    → (it : Vec ℕ) × ((it.items ≡ name) × Contains wanted it)
are_taken Knows every path name _ _ _ no_name is not_left = absurd (not_in_nothing name is)
are_taken Knows every path name _ _ _ (taken first names wanted skipped may rest) is not_left = elim (in_cons first.items names name is) [
  | inl it ↦ (first, (it, at_head first wanted))
  | inr later ↦
      let more = are_taken Knows every path name names wanted skipped rest later not_left in
      (more.0, (more.1.0, in_tail first wanted more.0 more.1.1))
]
are_taken Knows every path name _ _ _ (left_out first names wanted skipped may rest) is not_left = elim (in_cons first names name is) [
  | inl it ↦ absurd (not_left (subst (λ (n : List ℕ). IsWanted Knows every path false n) it may))
  | inr later ↦ are_taken Knows every path name names wanted skipped rest later not_left
]

-- ---- the directories that were entered

-- A directory was entered, with all its names that are wanted.
pub record WasEntered (Knows : Fact → Type 0) (search : Search) (named : Bool) (directory : List ℕ) (had : List Level) : Type 0 where
  pub names : List (Vec ℕ)
  pub skipped : ℕ
  pub is_open : IsOpen Knows (selects_every (search_in search directory)) directory named names skipped
  pub level : Level
  pub path_is : level.path ≡ directory
  pub search_is : level.search ≡ search_in search directory
  pub names_are : level.names ≡ reverse names
  pub is_had : Contains had level

level_had : (Knows : Fact → Type 0) (search : Search) (named : Bool) (path : List ℕ) (visits all : List Visit) (levels had : List Level)
    → IsEntered Knows search named path visits levels → IsPartOf visits all → IsPartOf levels had
    → WasEntered Knows search named path had ⊎ SomeUnread all
level_had Knows search named path visits all levels had (not_entered refusal why is levels_are) part grows =
    inr (one_unread visits all path refusal is part)
level_had Knows search named path visits all levels had (entered names skipped is_open is levels_are) part grows =
    let level : Level = record { path = path; search = search_in search path; names = reverse names } in
    inl (record {
      names = names;
      skipped = skipped;
      is_open = is_open;
      level = level;
      path_is = refl;
      search_is = refl;
      names_are = refl;
      is_had = grows level (subst (λ (l : List Level). Contains l level) (sym levels_are) (at_head level []));
    })

if_known : (bytes : List ℕ) (known : Option (List ℕ)) (P : List ℕ → Type 0) → known ≡ Some bytes → IfSome known P → P bytes
if_known bytes None P is holds = absurd (cc)
if_known bytes (Some all) P is holds = let it : all ≡ bytes = cc in subst P it holds

-- a name of it that is wanted is one of its names that were gone to
name_had : (Knows : Fact → Type 0) (search : Search) (named : Bool) (directory name : List ℕ) (had : List Level) → IsSteady Knows
    → (was : WasEntered Knows search named directory had) → HasName Knows named directory name
    → (IsWanted Knows (selects_every (search_in search directory)) directory false name → ⊥)
    → (it : Vec ℕ) × ((it.items ≡ name) × Contains was.level.names it)
name_had Knows search named directory name had steady was has not_left =
    let known : Ok was.is_open.left ≡ Ok (Some has.bytes) =
    steady.lists directory named (Ok was.is_open.left) (Ok (Some has.bytes)) was.is_open.lists has.lists in
    let left : was.is_open.left ≡ Some has.bytes = cc in
    let in_order = if_known has.bytes was.is_open.left _ left was.is_open.listed in
    let it = are_taken Knows (selects_every (search_in search directory)) directory name (names_after [] has.bytes) in_order.wanted in_order.count
    in_order.are_wanted has.one_of not_left in
    let one = Contains-permutation in_order.wanted was.names it.0 in_order.same it.1.1 in
    let back = Contains-permutation was.names (reverse was.names) it.0 (IsPermutation-reverse was.names) one in
    (it.0, (it.1.0, subst (λ (n : List (Vec ℕ)). Contains n it.0) (sym was.names_are) back))

not_at_once : (Knows : Fact → Type 0) (name : List ℕ) → IsSteady Knows → Knows (Excludes name true) → Knows (Excludes name false) → ⊥
not_at_once Knows name steady leaves keeps =
    let same : true ≡ false = steady.excludes name true false leaves keeps in
    cc

-- a directory that is on the same file system was entered
below_had : (Knows : Fact → Type 0) (search : Search) (path : List ℕ) (visits all : List Visit) (levels had : List Level) → IsSteady Knows
    → Knows (Elsewhere path false) → IsEnteredBelow Knows search path visits levels → IsPartOf visits all → IsPartOf levels had
    → WasEntered Knows search false path had ⊎ SomeUnread all
below_had Knows search path visits all levels had steady stays (elsewhere leaves is levels_are) part grows =
    let same : true ≡ false = steady.elsewheres path true false leaves stays in
    absurd (cc)
below_had Knows search path visits all levels had steady stays (entered_below stays_too enters) part grows =
    level_had Knows search false path visits all levels had enters part grows

entry_down : (Knows : Fact → Type 0) (search : Search) (path name : List ℕ) (found : Found) (visits : List Visit) → IsSteady Knows
    → Knows (Leads (path_in path name) false (Ok found)) → found.kind ≡ kinds.Directory → IsUtf8 name → Knows (Excludes name false)
    → IsEntry Knows search path name false visits → ⊥
entry_down Knows search path name found visits steady leads kind text keeps (excluded leaves down is) =
    not_at_once Knows name steady leaves keeps
entry_down Knows search path name found visits steady leads kind text keeps (no_text kept bad down is) = bad text
entry_down Knows search path name found visits steady leads kind text keeps (not_selected kept utf8 never down is) = cc
entry_down Knows search path name found visits steady leads kind text keeps (below found_too kept utf8 never looked dir down is) = cc
entry_down Knows search path name found visits steady leads kind text keeps (here looked target kept utf8 never looks dir leads_to down is) =
    let it = steady.leads (path_in path name) false looked (Ok found) looks leads in
    let so : is_directory (Ok found) ≡ false = subst (λ (o : Result Found Refusal). is_directory o ≡ false) it dir in
    not_both (is_directory_kind found.kind) (ap (λ (k : FileKind). is_directory_kind k) kind) so

-- where it leads to a directory this was entered
went_down : (Knows : Fact → Type 0) (search : Search) (had : List Level) (all : List Visit) (level : Level) (name : Vec ℕ) (found : Found)
    → IsSteady Knows → Knows (Leads (path_in level.path name.items) false (Ok found)) → found.kind ≡ kinds.Directory → IsUtf8 name.items
    → Knows (Excludes name.items false) → Knows (Elsewhere (path_in level.path name.items) false) → IsGoneTo Knows search had all level name
    → WasEntered Knows search false (path_in level.path name.items) had ⊎ SomeUnread all
went_down Knows search had all level name found steady leads kind text keeps stays (gone_down some deep is enters part grows) =
    below_had Knows search (path_in level.path name.items) some all deep had steady stays enters part grows
went_down Knows search had all level name found steady leads kind text keeps stays (gone some is part) =
    absurd (entry_down Knows level.search level.path name.items found some steady leads kind text keeps is)

-- each directory below was entered
pub below_entered : (Knows : Fact → Type 0) (search : Search) (top : List ℕ) (had start : List Level) (all first : List Visit)
    → IsSteady Knows → IsEntered Knows search true top first start → IsPartOf first all → IsWalked Knows search start had all
    → (named : Bool) (directory : List ℕ) → IsBelow Knows top named directory
    → WasEntered Knows search named directory had ⊎ SomeUnread all
below_entered Knows search top had start all first steady enters part walk _ _ itself =
    level_had Knows search true top first all start had enters part walk.starts
below_entered Knows search top had start all first steady enters part walk _ _ (deeper named directory name found under has leads kind stays) =
    elim (below_entered Knows search top had start all first steady enters part walk named directory under) [
      | inr unread_one ↦ inr unread_one
      | inl was ↦
          let it = name_had Knows search named directory name had steady was has
          (directory_wanted Knows (selects_every (search_in search directory)) directory name found steady has.no_dots has.text leads kind) in
          let goes = walk.names was.level was.is_had it.0 it.1.1 in
          let path : path_in was.level.path it.0.items ≡ path_in directory name =
          ap (λ (p : List ℕ). path_in p it.0.items) was.path_is ∙ ap (λ (n : List ℕ). path_in directory n) it.1.0 in
          let leads_there : Knows (Leads (path_in was.level.path it.0.items) false (Ok found)) =
          subst (λ (p : List ℕ). Knows (Leads p false (Ok found))) (sym path) leads in
          let text : IsUtf8 it.0.items = subst (λ (n : List ℕ). IsUtf8 n) (sym it.1.0) has.text in
          let keeps : Knows (Excludes it.0.items false) = subst (λ (n : List ℕ). Knows (Excludes n false)) (sym it.1.0) has.not_excluded in
          let stays_there : Knows (Elsewhere (path_in was.level.path it.0.items) false) =
          subst (λ (p : List ℕ). Knows (Elsewhere p false)) (sym path) stays in
          subst (λ (p : List ℕ). WasEntered Knows search false p had ⊎ SomeUnread all) path
          (went_down Knows search had all was.level it.0 found steady leads_there kind text keeps stays_there goes)
    ]

-- ---- a file

not_never : (Knows : Fact → Type 0) (path : List ℕ) (file : Found) (selection : Selection) → IsSelected Knows path file selection
    → is_never selection ≡ false
not_never Knows path file _ by_name = refl
not_never Knows path file _ (by_front held bytes opens known begins) = refl

leads_here : (Knows : Fact → Type 0) (path : List ℕ) (file : Found) (looked : Result Found Refusal) → IsSteady Knows
    → Knows (Leads path false looked) → LeadsToFile Knows path file → file.kind ≡ kinds.File → is_directory looked ≡ false
leads_here Knows path file looked steady looks (regular found) kind =
    ap (λ (l : Result Found Refusal). is_directory l) (steady.leads path false looked (Ok file) looks found)
    ∙ ap (λ (k : FileKind). is_directory_kind k) kind
leads_here Knows path file looked steady looks (linked link found kind_is followed) kind =
    ap (λ (l : Result Found Refusal). is_directory l) (steady.leads path false looked (Ok link) looks found)
    ∙ ap (λ (k : FileKind). is_directory_kind k) kind_is

visit_of_more : (path : List ℕ) (some all : List Visit) → IsPartOf some all → SomeVisit path some → SomeVisit path all
visit_of_more path some all part visit = (visit.0, (part visit.0 visit.1.0, visit.1.1))

entry_visit : (Knows : Fact → Type 0) (search : Search) (path name : List ℕ) (file : Found) (visits : List Visit)
    → IsSteady Knows → LeadsToFile Knows (path_in path name) file → file.kind ≡ kinds.File → IsUtf8 name
    → IsSelected Knows (path_in path name) file (selection_of (selects_every search) name) → Knows (Excludes name false)
    → IsEntry Knows search path name false visits → SomeVisit (path_in path name) visits
entry_visit Knows search path name file visits steady leads kind text selects keeps (excluded leaves down is) =
    absurd (not_at_once Knows name steady leaves keeps)
entry_visit Knows search path name file visits steady leads kind text selects keeps (no_text kept bad down is) = absurd (bad text)
entry_visit Knows search path name file visits steady leads kind text selects keeps (not_selected kept utf8 never down is) = absurd (cc)
entry_visit Knows search path name file visits steady leads kind text selects keeps (below found kept utf8 never looked dir down is) =
    absurd (cc)
entry_visit Knows search path name file visits steady leads kind text selects keeps
    (here looked target kept utf8 never looks dir leads_to down is) =
    target_visit Knows search (path_in path name) (selection_of (selects_every search) name) (is_expected path name) file target visits steady
    (target_is Knows (path_in path name) looked target file steady looks leads kind leads_to) kind selects is

not_down : (Knows : Fact → Type 0) (search : Search) (path name : List ℕ) (file : Found) (visits : List Visit)
    → IsSteady Knows → LeadsToFile Knows (path_in path name) file → file.kind ≡ kinds.File → IsUtf8 name
    → IsSelected Knows (path_in path name) file (selection_of (selects_every search) name)
    → IsEntry Knows search path name true visits → ⊥
not_down Knows search path name file visits steady leads kind text selects (excluded leaves down is) = cc
not_down Knows search path name file visits steady leads kind text selects (no_text kept bad down is) = bad text
not_down Knows search path name file visits steady leads kind text selects (not_selected kept utf8 never down is) =
    not_both (is_never (selection_of (selects_every search) name)) never (not_never Knows (path_in path name) file (selection_of (selects_every search) name) selects)
not_down Knows search path name file visits steady leads kind text selects (below looked kept utf8 never looks dir down is) =
    not_both (is_directory looked) dir (leads_here Knows (path_in path name) file looked steady looks leads kind)
not_down Knows search path name file visits steady leads kind text selects (here looked target kept utf8 never looks dir leads_to down is) =
    cc

file_gone : (Knows : Fact → Type 0) (search : Search) (had : List Level) (all : List Visit) (level : Level) (name : Vec ℕ) (file : Found)
    → IsSteady Knows → LeadsToFile Knows (path_in level.path name.items) file → file.kind ≡ kinds.File → IsUtf8 name.items
    → IsSelected Knows (path_in level.path name.items) file (selection_of (selects_every level.search) name.items) → Knows (Excludes name.items false)
    → IsGoneTo Knows search had all level name → SomeVisit (path_in level.path name.items) all
file_gone Knows search had all level name file steady leads kind text selects keeps (gone some is part) =
    visit_of_more (path_in level.path name.items) some all part
    (entry_visit Knows level.search level.path name.items file some steady leads kind text selects keeps is)
file_gone Knows search had all level name file steady leads kind text selects keeps (gone_down some deep is enters part grows) =
    absurd (not_down Knows level.search level.path name.items file [] steady leads kind text selects is)

gone_more : (Knows : Fact → Type 0) (search : Search) (had : List Level) (some all : List Visit) (level : Level) (name : Vec ℕ)
    → IsPartOf some all → IsGoneTo Knows search had some level name → IsGoneTo Knows search had all level name
gone_more Knows search had some all level name part (gone visits is there) = gone visits is (λ x is_x. part x (there x is_x))
gone_more Knows search had some all level name part (gone_down visits deep is enters there grows) =
    gone_down visits deep is enters (λ x is_x. part x (there x is_x)) grows

walked_more : (Knows : Fact → Type 0) (search : Search) (start had : List Level) (some all : List Visit) → IsPartOf some all
    → IsWalked Knows search start had some → IsWalked Knows search start had all
walked_more Knows search start had some all part walk = record {
  starts = walk.starts;
  names = λ level is_level name is_name. gone_more Knows search had some all level name part (walk.names level is_level name is_name);
}

file_in_walk : (Knows : Fact → Type 0) (search : Search) (top path : List ℕ) (start : List Level) (count : ℕ) (first rest all : List Visit)
    → IsSteady Knows → IsEntered Knows search true top first start → Turns Knows search start count [] rest
    → IsPartOf first all → IsPartOf rest all → IsFileBelow Knows search top path → SomeVisit path all ⊎ SomeUnread all
file_in_walk Knows search top path start count first rest all steady enters turns first_part rest_part file =
    let covers = walk_covers Knows search start count rest turns in
    let walk = walked_more Knows search start covers.0 rest all rest_part covers.1 in
    elim (below_entered Knows search top covers.0 start all first steady enters first_part walk file.named file.directory file.below) [
      | inr unread_one ↦ inr unread_one
      | inl was ↦
          let chosen = not_never Knows path file.file (selection_of (selects_every (search_in search file.directory)) file.name) file.selected in
          let it = name_had Knows search file.named file.directory file.name covers.0 steady was file.has_name
          (selected_wanted Knows (selects_every (search_in search file.directory)) file.directory file.name file.has_name.no_dots chosen) in
          let goes = walk.names was.level was.is_had it.0 it.1.1 in
          let here : path ≡ path_in was.level.path it.0.items =
          file.path_is ∙ ap (λ (n : List ℕ). path_in file.directory n) (sym it.1.0)
          ∙ ap (λ (p : List ℕ). path_in p it.0.items) (sym was.path_is) in
          let selection : selection_of (selects_every (search_in search file.directory)) file.name ≡ selection_of (selects_every was.level.search) it.0.items =
          ap (λ (n : List ℕ). selection_of (selects_every (search_in search file.directory)) n) (sym it.1.0)
          ∙ ap (λ (e : Search). selection_of (selects_every e) it.0.items) (sym was.search_is) in
          let leads : LeadsToFile Knows (path_in was.level.path it.0.items) file.file =
          subst (λ (p : List ℕ). LeadsToFile Knows p file.file) here file.leads in
          let selects : IsSelected Knows (path_in was.level.path it.0.items) file.file (selection_of (selects_every was.level.search) it.0.items) =
          subst (λ (s : Selection). IsSelected Knows (path_in was.level.path it.0.items) file.file s) selection
          (subst (λ (p : List ℕ). IsSelected Knows p file.file (selection_of (selects_every (search_in search file.directory)) file.name)) here file.selected) in
          let text : IsUtf8 it.0.items = subst (λ (n : List ℕ). IsUtf8 n) (sym it.1.0) file.has_name.text in
          let keeps : Knows (Excludes it.0.items false) =
          subst (λ (n : List ℕ). Knows (Excludes n false)) (sym it.1.0) file.has_name.not_excluded in
          inl (subst (λ (p : List ℕ). SomeVisit p all) (sym here)
          (file_gone Knows search covers.0 all was.level it.0 file.file steady leads file.is_file text selects keeps goes))
    ]

-- ---- the law

pub file_visited : (Knows : Fact → Type 0) (search : Search) (top path : List ℕ) (visits : List Visit) → IsSteady Knows
    → IsDirectory Knows search true top visits → IsFileBelow Knows search top path → SomeVisit path visits ⊎ SomeUnread visits
file_visited Knows search top path visits steady (before cut is) file = absurd (cc)
file_visited Knows search top path visits steady (stopped first rest start now count cut enters turns is) file = absurd (cc)
file_visited Knows search top path visits steady (walked first rest start count enters turns is) file =
    let met : IsPartOf (first ++ rest) visits = λ x is_x.
    subst (λ (v : List Visit). Contains v x) (sym is) (Contains-append_left (first ++ rest) _ x is_x) in
    file_in_walk Knows search top path start count first rest visits steady enters turns
    (λ x is_x. met x (Contains-append_left first rest x is_x)) (λ x is_x. met x (Contains-append_right first rest x is_x)) file
file_visited Knows search top path visits steady (endless first rest start now count enters turns most is) file =
    let one : Visit = Audited None (own_name top) (Err refusals.Read) in
    inr (
      own_name top,
      refusals.Read,
      subst (λ (v : List Visit). Contains v one) (sym is)
          (Contains-append_right (first ++ rest) (refused top refusals.Read) one (at_head one [])),
    )
