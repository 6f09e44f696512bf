-- The steps of an audit over names and paths that are given.
use Rattle.std.proofs.Common.{◌≡◌, ℕ, ◌<◌, ◌≤◌, ◌⊎◌, Bool, true, false, List, [], ◌∷◌, ◌++◌, length, take, drop, Option, Some, None, IfSome}
use Rattle.std.proofs.Common.{Result, Ok, Err, arith, refl, sym, ap, subst, inl, inr, ◌∙◌, append-nil}
use Rattle.std.proofs.KnownBytes.{Consumes-whole}
use Rattle.std.proofs.lemmas.List.{length-take-le, take-append-drop, take-append-le, take_all}
use Rattle.std.specs.Io.KnownBytes.{IsAtEnd}
use Rattle.std.specs.Result.{result_err}
use Rattle.std.specs.Prelude.{is_ok}
use Rattle.audit_run.specs.Fact.{Fact}
use Rattle.audit_run.specs.Named.{Each, IsOnList, IsOnNames, before_name, names_of, names_to, none}
use Rattle.audit_run.specs.Visits.{AuditsBy, Begun, Goes, State, Took, Visit, Went, is_whole}
use Rattle.audit_run.specs.ZeroEnded.{Gives, Unread, most_bytes, names_after}
use Rattle.audit_run.specs.declared.stop.Stop.{Stop}
use Rattle.audit_run.specs.declared.stop.Stop.TheVariants as stops
use Rattle.audit_run.specs.declared.search.Search.{Search}
use Rattle.audit_run.proofs.Auditing.{by_then, nothing_begun, nothing_met}
use Rattle.audit_run.proofs.Rows.{each_cut, each_one, each_then}
use Rattle.audit_run.proofs.ZeroEnded.{gives_last, gives_none, gives_then, of_front, too_many_came, whole_name}

-- an allocation failed after this was audited
pub by_then_out : (visits : List Visit) (old mid : State) → AuditsBy visits None old mid → AuditsBy visits (Some stops.NoMemory) old mid
by_then_out visits old mid first =
    subst (λ (v : List Visit). AuditsBy v (Some stops.NoMemory) old mid) (append-nil visits)
    (by_then visits [] (Some stops.NoMemory) old mid mid first (nothing_begun mid).audits)

-- ---- a name of a list of names

pub long_front : (name full : List ℕ) → name ≡ take 4097 full → 4096 < length full → take 4096 name ≡ take 4096 full
long_front name full is long =
    let most : 4097 ≤ length full = omega (arith, long) in
    let size : length (take 4097 full) ≡ 4097 = length-take-le 4097 full most in
    let fits : 4096 ≤ length (take 4097 full) = omega (arith, size) in
    ap (λ (n : List ℕ). take 4096 n) is
    ∙ sym (take-append-le 4096 (take 4097 full) (drop 4097 full) fits)
    ∙ ap (λ (n : List ℕ). take 4096 n) (take-append-drop 4097 full)

empty : (name : List ℕ) → length name ≡ 0 → name ≡ []
empty [] is = refl
empty (byte ∷ name) is = absurd (omega (arith, is))

-- the last name, of which this front is kept
some_front : (name last : List ℕ) → name ≡ take 4097 last → (length name ≡ 0 → ⊥) → names_to last ≡ last ∷ []
some_front name [] is some =
    let size : length name ≡ 0 = ap (λ (n : List ℕ). length n) (is ∙ take_all 4097 [] (omega arith)) in
    absurd (some size)
some_front name (byte ∷ last) is some = refl

no_front : (name last : List ℕ) → name ≡ take 4097 last → length name ≡ 0 → names_to last ≡ []
no_front name last is none_there =
    let fits : length name ≤ 4096 = omega (arith, none_there) in
    let same = whole_name 4096 name last is fits in
    ap (λ (n : List ℕ). names_to n) (sym same ∙ empty name none_there)

-- ---- a reader of names

-- These names of a reader were audited, up to where the audit stopped, and this front of another one came.
pub record HasListed (Knows : Fact → Type 0) (search : Search) (whole : Bool) (begun now : Unread) (front : List ℕ) (stop : Option Stop)
    (old new : State) : Type 0 where
  pub names : List (List ℕ)
  pub visits : List Visit
  pub gives : Gives begun now names front
  pub is : Each (IsOnList Knows search) whole names visits
  pub audits : AuditsBy visits stop old new

pub none_listed : (Knows : Fact → Type 0) (search : Search) (begun : Unread) (now : State)
    → HasListed Knows search true begun begun [] None now now
none_listed Knows search begun now =
    record { names = []; visits = []; gives = gives_none begun; is = none; audits = (nothing_met now).audits }

-- an allocation failed
pub out_listed : (Knows : Fact → Type 0) (search : Search) (begun mid : Unread) (old now : State)
    → HasListed Knows search true begun mid [] None old now → HasListed Knows search true begun mid [] (Some stops.NoMemory) old now
out_listed Knows search begun mid old now was = record {
  names = was.names;
  visits = was.visits;
  gives = was.gives;
  is = was.is;
  audits = by_then_out was.visits old now was.audits;
}

pub one_listed : (Knows : Fact → Type 0) (search : Search) (whole : Bool) (begun mid now : Unread) (name : List ℕ) (stop : Option Stop)
    (more : List Visit) (old then new : State) → HasListed Knows search true begun mid [] None old then → Gives mid now (name ∷ []) []
    → IsOnList Knows search whole name more → AuditsBy more stop then new → HasListed Knows search whole begun now [] stop old new
one_listed Knows search whole begun mid now name stop more old then new was gives is audits = record {
  names = was.names ++ name ∷ [];
  visits = was.visits ++ more;
  gives = gives_then begun mid now was.names (name ∷ []) [] was.gives gives;
  is = each_then (IsOnList Knows search) whole was.names (name ∷ []) was.visits more was.is
      (each_one (IsOnList Knows search) whole name more is);
  audits = by_then was.visits more stop old then new was.audits audits;
}

-- the audit ends before all names
pub took_part : (Knows : Fact → Type 0) (search : Search) (whole : Bool) (begun now : Unread) (front : List ℕ) (result : Result Bool Stop)
    (old new : State) → is_whole result ≡ false → HasListed Knows search whole begun now front (result_err result) old new
    → Took (λ result. IsOnNames Knows search (is_whole result) begun.left) result old new
took_part Knows search whole begun now front result old new part was =
    let Is = IsOnList Knows search in
    let came = was.gives.came in
    let here : Each Is false (names_after [] came) was.visits =
    rw was.gives.names_are (subst (λ (n : List (List ℕ)). Each Is false n was.visits) (append-nil was.names)
    (each_cut Is whole was.names [] was.visits (λ name. before_name refl refl) was.is)) in
    let known : IsOnNames Knows search false begun.left was.visits =
    of_front (λ bytes. (first rest : List ℕ) × ((bytes ≡ first ++ rest)
    × (Each Is false (names_after [] first) was.visits ⊎ Each Is false (names_of bytes) was.visits)))
    begun.left now.left came was.gives.comes.consumed (λ rest. (came, rest, (refl, inl here))) in
    record { visits = was.visits; is = rw part known; audits = was.audits }

-- it comes to the last name, if no zero byte ends it
on_all : (Knows : Fact → Type 0) (search : Search) (whole : Bool) (begun now : Unread) (names : List (List ℕ)) (last : List ℕ) (visits : List Visit)
    → Gives begun now names last → IsAtEnd now.left → Each (IsOnList Knows search) whole (names ++ names_to last) visits
    → IsOnNames Knows search whole begun.left visits
on_all Knows search true begun now names last visits gives end is =
    let all : names_of gives.came ≡ names ++ names_to last = rw (gives.names_are, gives.front_is) refl in
    Consumes-whole begun.left now.left gives.came (λ bytes. Each (IsOnList Knows search) true (names_of bytes) visits)
    gives.comes.consumed end (rw all is)
on_all Knows search false begun now names last visits gives end is =
    let all : names_of gives.came ≡ names ++ names_to last = rw (gives.names_are, gives.front_is) refl in
    Consumes-whole begun.left now.left gives.came (λ bytes. (first rest : List ℕ) × ((bytes ≡ first ++ rest)
    × (Each (IsOnList Knows search) false (names_after [] first) visits ⊎ Each (IsOnList Knows search) false (names_of bytes) visits)))
    gives.comes.consumed end (gives.came, [], (sym (append-nil gives.came), inr (rw all is)))

took_all : (Knows : Fact → Type 0) (search : Search) (begun mid now : Unread) (last : List ℕ) (more : List Visit)
    (result : Result Bool Stop) (old then new : State) → HasListed Knows search true begun mid [] None old then → Gives mid now [] last
    → IsAtEnd now.left → Each (IsOnList Knows search) (is_whole result) (names_to last) more → AuditsBy more (result_err result) then new
    → Took (λ result. IsOnNames Knows search (is_whole result) begun.left) result old new
took_all Knows search begun mid now last more result old then new was gives end is audits =
    let all = gives_last begun mid now was.names last was.gives gives in
    let both = each_then (IsOnList Knows search) (is_whole result) was.names (names_to last) was.visits more was.is is in
    record {
      visits = was.visits ++ more;
      is = on_all Knows search (is_whole result) begun now was.names last (was.visits ++ more) all end both;
      audits = by_then was.visits more (result_err result) old then new was.audits audits;
    }

-- no last name came
pub took_none : (Knows : Fact → Type 0) (search : Search) (begun mid now : Unread) (name last : List ℕ) (old then : State)
    → HasListed Knows search true begun mid [] None old then → Gives mid now [] last → IsAtEnd now.left → name ≡ take 4097 last
    → length name ≡ 0 → Took (λ result. IsOnNames Knows search (is_whole result) begun.left) (Ok true) old then
took_none Knows search begun mid now name last old then was gives end is nothing =
    took_all Knows search begun mid now last [] (Ok true) old then then was gives end
    (subst (λ (n : List (List ℕ)). Each (IsOnList Knows search) true n []) (sym (no_front name last is nothing)) none)
    (nothing_met then).audits

-- the last name came, without a zero byte
pub took_last : (Knows : Fact → Type 0) (search : Search) (begun mid now : Unread) (name last : List ℕ) (more : List Visit)
    (result : Result Bool Stop) (old then new : State) → HasListed Knows search true begun mid [] None old then → Gives mid now [] last
    → IsAtEnd now.left → name ≡ take 4097 last → (length name ≡ 0 → ⊥) → IsOnList Knows search (is_whole result) last more
    → AuditsBy more (result_err result) then new → Took (λ result. IsOnNames Knows search (is_whole result) begun.left) result old new
took_last Knows search begun mid now name last more result old then new was gives end is some goes audits =
    took_all Knows search begun mid now last more result old then new was gives end
    (subst (λ (n : List (List ℕ)). Each (IsOnList Knows search) (is_whole result) n more) (sym (some_front name last is some))
    (each_one (IsOnList Knows search) (is_whole result) last more goes)) audits

-- as many bytes came as are read
pub broken_listed : (Knows : Fact → Type 0) (search : Search) (begun mid now : Unread) (front : List ℕ) (old then : State)
    → HasListed Knows search true begun mid [] None old then → Gives mid now [] front → now.room ≡ 0 → begun.room ≡ most_bytes
    → IfSome begun.left (λ bytes. most_bytes ≤ length bytes)
broken_listed Knows search begun mid now front old then was gives none_left all =
    let both = gives_last begun mid now was.names front was.gives gives in
    too_many_came begun now was.names front both none_left all

-- ---- what was met is audited

went_is : (result : Result (Unit {0}) Stop) (Is : List Visit → Type 0) (Also : Bool → List Visit → Type 0) (visits : List Visit)
    → Also false [] → ((whole : Bool) (v : List Visit) → Is v → Also whole v)
    → Begun {A = Unit {0}} result (λ (done : Unit {0}). Is) visits → Also (is_ok result) visits
went_is (Ok done) Is Also visits nothing goes is = goes true visits is
went_is (Err stop) Is Also visits nothing goes (inl is) = goes false visits is.1
went_is (Err stop) Is Also visits nothing goes (inr none_met) = subst (λ (v : List Visit). Also false v) (sym none_met) nothing

pub goes_went : (result : Result (Unit {0}) Stop) (Is : List Visit → Type 0) (Also : Bool → List Visit → Type 0) (old new : State)
    → Also false [] → ((whole : Bool) (v : List Visit) → Is v → Also whole v)
    → Goes {A = Unit {0}} result (λ (done : Unit {0}). Is) old new → Went {A = Unit {0}} Also result old new
goes_went result Is Also old new nothing goes was = record {
  visits = was.visits;
  is = went_is result Is Also was.visits nothing goes was.is;
  audits = was.meets.audits;
}

pub went_as : (result : Result (Unit {0}) Stop) (Is Also : Bool → List Visit → Type 0) (old new : State)
    → ((whole : Bool) (v : List Visit) → Is whole v → Also whole v) → Went {A = Unit {0}} Is result old new
    → Went {A = Unit {0}} Also result old new
went_as result Is Also old new goes was =
    record { visits = was.visits; is = goes (is_ok result) was.visits was.is; audits = was.audits }
