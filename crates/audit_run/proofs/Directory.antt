-- The ends of the walk of a directory that is named.
use Rattle.std.proofs.Common.{◌≡◌, ℕ, ◌≤◌, Bool, true, false, List, [], ◌++◌, Option, None, Some}
use Rattle.std.proofs.Common.{Result, Err, refl, sym, ap, subst, ◌∙◌, append-nil, inl, inr}
use Rattle.std.specs.Result.{result_err}
use Rattle.audit_lines.specs.declared.why.Refusal.TheVariants as refusals
use Rattle.audit_run.specs.Fact.{Fact}
use Rattle.audit_run.specs.Visits.{Begun, Goes, Meets, State, Visit, Went, gives, passes, refused}
use Rattle.audit_run.specs.Walk.{entering, nothing, Walked, IsDirectory, IsEntered, Level, MayTurn, Turns, before, endless, most_turns, no_file, none, stopped, walked}
use Rattle.audit_run.specs.declared.stop.Stop.{Stop}
use Rattle.audit_run.specs.declared.stop.Stop.TheVariants as stops
use Rattle.audit_run.specs.declared.search.Search.{Search}
use Rattle.audit_run.proofs.Auditing.{meets_then, nothing_begun}
use Rattle.audit_run.proofs.Turning.{met_then_out, since_begun, walk_stopped}

-- an allocation failed before
pub directory_none : (Knows : Fact → Type 0) (search : Search) (path : List ℕ) (old : State)
    → Went {A = Unit {0}} (λ whole. IsDirectory Knows search whole path) (Err stops.NoMemory) old (entering old)
directory_none Knows search path old = record {
  visits = [];
  is = before refl refl;
  audits = since_begun [] (Some stops.NoMemory) old (entering old) nothing (nothing_begun (entering old)).audits;
}

entered_first : (Knows : Fact → Type 0) (search : Search) (path : List ℕ) (visits : List Visit) (levels : List Level)
    → IsEntered Knows search true path visits levels → IsDirectory Knows search false path visits
entered_first Knows search path visits levels enters =
    stopped visits [] levels levels 0 refl enters none (sym (append-nil visits))

begun_first : {X : Type 0} (Knows : Fact → Type 0) (search : Search) (path : List ℕ) (visits : List Visit) (stop : Stop)
    (levels : Option X → List Level)
    → Begun {A = Option X} (Err stop) (λ (it : Option X) (v : List Visit). IsEntered Knows search true path v (levels it)) visits
    → IsDirectory Knows search false path visits
begun_first Knows search path visits stop levels (inl is) = entered_first Knows search path visits (levels is.0) is.1
begun_first Knows search path visits stop levels (inr none_met) = before refl none_met

-- the audit was stopped when it was entered
pub directory_first : {X : Type 0} (Knows : Fact → Type 0) (search : Search) (path : List ℕ) (stop : Stop) (levels : Option X → List Level)
    (old new : State)
    → Goes {A = Option X} (Err stop) (λ (it : Option X) (v : List Visit). IsEntered Knows search true path v (levels it)) (entering old) new
    → Went {A = Unit {0}} (λ whole. IsDirectory Knows search whole path) (Err stop) old new
directory_first Knows search path stop levels old new was = record {
  visits = was.visits;
  is = begun_first Knows search path was.visits stop levels was.is;
  audits = since_begun was.visits (Some stop) old new nothing was.meets.audits;
}

pub directory_out : (Knows : Fact → Type 0) (search : Search) (path : List ℕ) (visits : List Visit) (levels : List Level) (old new : State)
    → IsEntered Knows search true path visits levels → Meets visits None (entering old) new
    → Went {A = Unit {0}} (λ whole. IsDirectory Knows search whole path) (Err stops.NoMemory) old new
directory_out Knows search path visits levels old new enters meets = record {
  visits = visits;
  is = entered_first Knows search path visits levels enters;
  audits = since_begun visits (Some stops.NoMemory) old new nothing (met_then_out visits (entering old) new meets).audits;
}

-- the audit was stopped at a step
pub directory_stopped : (Knows : Fact → Type 0) (search : Search) (path : List ℕ) (count : ℕ) (levels now : List Level)
    (stop : Stop) (old mid new : State) → Walked Knows search path count levels (entering old) mid
    → Goes {A = Unit {0}} (Err stop) (λ (done : Unit {0}). MayTurn false Knows search levels now) mid new
    → Went {A = Unit {0}} (λ whole. IsDirectory Knows search whole path) (Err stop) old new
directory_stopped Knows search path count levels now stop old mid new was goes =
    let all = walk_stopped Knows search path count levels now goes.visits stop (entering old) mid new was goes.is goes.meets in
    record { visits = all.0; is = all.1; audits = since_begun all.0 (Some stop) old new nothing all.2.audits }

-- it was walked to its end
pub directory_walked : (Knows : Fact → Type 0) (search : Search) (path : List ℕ) (count : ℕ) (levels : List Level)
    (result : Result (Unit {0}) Stop) (old mid new : State) → levels ≡ [] → Walked Knows search path count levels (entering old) mid
    → Meets (no_file search path mid.since.gave mid.since.passed) (result_err result) mid new
    → Went {A = Unit {0}} (λ whole. IsDirectory Knows search whole path) result old new
directory_walked Knows search path count levels result old mid new ends was meets =
    let met = was.first ++ was.rest in
    let more = no_file search path (gives met) (passes met) in
    let same : no_file search path mid.since.gave mid.since.passed ≡ more =
    ap (λ (b : Bool). no_file search path b mid.since.passed) was.meets.since.0
    ∙ ap (λ (b : Bool). no_file search path (gives met) b) was.meets.since.1 in
    let last : Meets more (result_err result) mid new = subst (λ (v : List Visit). Meets v (result_err result) mid new) same meets in
    let turns = subst (λ (l : List Level). Turns Knows search was.start count l was.rest) ends was.turns in
    record {
      visits = met ++ more;
      is = walked was.first was.rest was.start count was.enters turns refl;
      audits = since_begun (met ++ more) (result_err result) old new nothing
          (meets_then met more (result_err result) (entering old) mid new was.meets last).audits;
    }

-- there was no end within the most steps
pub directory_endless : (Knows : Fact → Type 0) (search : Search) (path : List ℕ) (count : ℕ) (levels : List Level)
    (result : Result (Unit {0}) Stop) (old mid new : State) → most_turns ≤ count → Walked Knows search path count levels (entering old) mid
    → Meets (refused path refusals.Read) (result_err result) mid new
    → Went {A = Unit {0}} (λ whole. IsDirectory Knows search whole path) result old new
directory_endless Knows search path count levels result old mid new most was meets =
    let met = was.first ++ was.rest in
    record {
      visits = met ++ refused path refusals.Read;
      is = endless was.first was.rest was.start levels count was.enters was.turns most refl;
      audits = since_begun (met ++ refused path refusals.Read) (result_err result) old new nothing
          (meets_then met (refused path refusals.Read) (result_err result) (entering old) mid new was.meets meets).audits;
    }
