-- Sequences of fields: the next one, the last one, and that a list has one sequence.
use Rattle.std.proofs.Common.{◌≡◌, ℕ, ◌+◌, ◌-◌, ◌*◌, ◌<◌, ◌≤◌, Bool, true, List, [], ◌∷◌, ◌++◌, length, take, drop, Option, Some, None, Result, Ok, refl, sym, ap, subst, ◌∙◌, arith, length-append, length-drop}
use Rattle.std.specs.Prelude.{nat_lt}
use Rattle.std.specs.List.{concat}
use Rattle.std.proofs.lemmas.Bool.{ltb-false}
use Rattle.std.proofs.lemmas.List.{append-nil, length-take-le, take-append-drop, take_all, take_rest}
use Rattle.krl_types.specs.declared.krl_fault.KrlFault.{KrlFault}
use Rattle.krl_format.specs.declared.place.Place.{Place}
use Rattle.krl_format.specs.Front.{IsEnd, IsFirstKrlFault, IsFront, LeadsTo, Passes, Reported, State, ended, ends_early, limit, no_room, refused, start, state_after, too_long}
use Rattle.krl_format.specs.Place.{can_end, expected}
use Rattle.krl_format.proofs.LongestFronts.{nearer, weight}
use Rattle.krl_format.proofs.Fronts.{append_same, end_size}
use Rattle.krl_format.proofs.Judgements.{same_place}
use Rattle.krl_openssh.specs.Difference.{difference_at, first_difference, or_later, place_or}
use Rattle.krl_openssh.specs.Fields.{AreWhole, HasFields}
use Rattle.krl_openssh.specs.declared.difference.Difference.{Difference}

-- Some fields of a list are left, and its first difference is in them.
pub record Remains (fields : List (List ℕ)) (place : Place) (rest : List ℕ) : Type 0 where
  pub todo : List (List ℕ)
  pub whole : AreWhole place todo
  pub parts : rest ≡ concat todo
  pub same : first_difference start.place fields ≡ first_difference place todo

pub begins : (list : List ℕ) (fields : List (List ℕ)) → HasFields list fields → Remains fields start.place list
begins list fields is = record { todo = fields; whole = is.whole; parts = is.parts; same = refl }

-- ---- the end

-- at a place where a list may end, a field has a byte
not_ended : (place next : Place) (field rest : List ℕ) (more : List (List ℕ)) → can_end place ≡ true → rest ≡ [] → Passes place field next → rest ≡ concat (field ∷ more) → ⊥
not_ended place next field rest more may none passes parts =
    omega (arith, end_size place may, passes.whole, ap length none, ap length parts, length-append field (concat more))

ended_at : (todo : List (List ℕ)) (place : Place) (rest : List ℕ) → IsEnd place rest → AreWhole place todo → rest ≡ concat todo → first_difference place todo ≡ None
ended_at [] place rest end whole parts = refl
ended_at (field ∷ more) place rest end (next, (passes, later)) parts = absurd (not_ended place next field rest more end.0 end.1 passes parts)

pub ends : (fields : List (List ℕ)) (place : Place) (rest : List ℕ) → IsEnd place rest → Remains fields place rest → None ≡ first_difference start.place fields
ends fields place rest end is = sym (is.same ∙ ended_at is.todo place rest end is.whole is.parts)

-- ---- the next field

missing_at : (todo : List (List ℕ)) (place : Place) (rest : List ℕ) → (IsEnd place rest → ⊥) → AreWhole place todo → rest ≡ concat todo
    → ((field after : List ℕ) (next : Place) → Passes place field next → rest ≡ field ++ after → ⊥) → ⊥
missing_at [] place rest unended whole parts none = unended (whole, parts)
missing_at (field ∷ more) place rest unended (next, (passes, later)) parts none = none field (concat more) next passes parts

-- there is one before the end
pub missing : (fields : List (List ℕ)) (place : Place) (rest : List ℕ) → (IsEnd place rest → ⊥) → Remains fields place rest
    → ((field after : List ℕ) (next : Place) → Passes place field next → rest ≡ field ++ after → ⊥) → ⊥
missing fields place rest unended is none = missing_at is.todo place rest unended is.whole is.parts none

record IsNext (todo : List (List ℕ)) (next : Place) (rest : List ℕ) (size : ℕ) : Type 0 where
  more : List (List ℕ)
  is : todo ≡ take size rest ∷ more
  whole : AreWhole next more
  parts : drop size rest ≡ concat more

next_at : (todo : List (List ℕ)) (place next : Place) (rest : List ℕ) (size : ℕ) → (IsEnd place rest → ⊥) → AreWhole place todo → rest ≡ concat todo
    → Passes place (take size rest) next → IsNext todo next rest size
next_at [] place next rest size unended whole parts passes = absurd (unended (whole, parts))
next_at (field ∷ more) place next rest size unended (next', (passes', later)) parts passes =
    let both = append_same field (take size rest) (concat more) (drop size rest) (passes'.whole ∙ sym passes.whole) (sym parts ∙ sym (take-append-drop size rest)) in
    let same : next' ≡ next = same_place next' next (sym passes'.judged ∙ ap (expected place).judged both.0 ∙ passes.judged) in
    record {
      more = more;
      is = ap (λ (first : List ℕ). first ∷ more) both.0;
      whole = subst (λ (p : Place). AreWhole p more) same later;
      parts = sym both.1;
    }

pub first_of : (place next : Place) (field : List ℕ) (more : List (List ℕ)) → (expected place).judged field ≡ Ok next
    → first_difference place (field ∷ more) ≡ or_later (difference_at place field) (first_difference next more)
first_of place next field more judged = ap (λ (r : Result Place KrlFault). or_later (difference_at place field) (first_difference (place_or place r) more)) judged

module _ (fields : List (List ℕ)) (place next : Place) (rest : List ℕ) (size : ℕ) (unended : IsEnd place rest → ⊥) (is : Remains fields place rest) (passes : Passes place (take size rest) next) where
  there : IsNext is.todo next rest size
  there = next_at is.todo place next rest size unended is.whole is.parts passes

  same : first_difference start.place fields ≡ or_later (difference_at place (take size rest)) (first_difference next there.more)
  same = is.same ∙ ap (first_difference place) there.is ∙ first_of place next (take size rest) there.more passes.judged

  -- it has a difference
  pub found : (difference : Difference) → difference_at place (take size rest) ≡ Some difference → Some difference ≡ first_difference start.place fields
  found difference differs = sym (same ∙ ap (λ (d : Option Difference). or_later d (first_difference next there.more)) differs)

  -- it has none
  pub goes_on : (after : List ℕ) → after ≡ drop size rest → difference_at place (take size rest) ≡ None → Remains fields next after
  goes_on after after_is differs = record {
    todo = there.more;
    whole = there.whole;
    parts = after_is ∙ there.parts;
    same = same ∙ ap (λ (d : Option Difference). or_later d (first_difference next there.more)) differs;
  }

-- after each field the end is nearer
pub comes_nearer : (place next : Place) (rest : List ℕ) (size : ℕ) → size ≤ length rest → Passes place (take size rest) next
    → 2 * length (take (length rest - size) (drop size rest)) + weight next < 2 * length rest + weight place
comes_nearer place next rest size within passes =
    let near = nearer place next (take size rest) passes.judged in
    let left = ap length (take_rest rest size) in
    omega (arith, near, left, passes.whole, length-take-le size rest within, length-drop size rest, within)

-- ---- the fields of a list

leads_whole : (first last : State) (fields : List (List ℕ)) → LeadsTo first fields last → can_end last.place ≡ true → AreWhole first.place fields
leads_whole first last [] leads may = subst (λ (s : State). can_end s.place ≡ true) (sym leads) may
leads_whole first last (field ∷ fields) leads may = (leads.0, (leads.1.0, leads_whole (state_after first field leads.0) last fields leads.1.1 may))

has_all : (list rest : List ℕ) (fields : List (List ℕ)) (state : State) (goes_on : Bool) → IsFront list fields state rest → goes_on ≡ nat_lt limit (length list) → Reported state.place rest goes_on None → HasFields list fields
has_all list rest fields state goes_on front past (ended at off is) = record {
  whole = leads_whole start state fields front.leads at.0;
  parts = sym (take_all limit list (ltb-false limit (length list) (sym past ∙ off))) ∙ front.parts ∙ ap (λ (t : List ℕ). concat fields ++ t) at.1 ∙ append-nil (concat fields);
}
has_all list rest fields state goes_on front past (no_room none is) = absurd cc
has_all list rest fields state goes_on front past (refused field after why room parts size judged is) = absurd cc
has_all list rest fields state goes_on front past (too_long room short on is) = absurd cc
has_all list rest fields state goes_on front past (ends_early room short not_end off is) = absurd cc

pub has_fields : (list : List ℕ) → IsFirstKrlFault list None → (fields : List (List ℕ)) × HasFields list fields
has_fields list none = (none.fields, has_all list none.rest none.fields none.state (nat_lt limit (length list)) none.front.front refl none.reported)

one_row_at : (place : Place) (fields others : List (List ℕ)) → AreWhole place fields → AreWhole place others → concat fields ≡ concat others → fields ≡ others
one_row_at place [] [] one other joined = refl
one_row_at place [] (field ∷ others) may (next, (passes, later)) joined = absurd (not_ended place next field [] others may refl passes joined)
one_row_at place (field ∷ fields) [] (next, (passes, later)) may joined = absurd (not_ended place next field [] fields may refl passes (sym joined))
one_row_at place (field ∷ fields) (field' ∷ others) (next, (passes, later)) (next', (passes', later')) joined =
    let both = append_same field field' (concat fields) (concat others) (passes.whole ∙ sym passes'.whole) joined in
    let place_is : next' ≡ next = same_place next' next (sym passes'.judged ∙ ap (expected place).judged (sym both.0) ∙ passes.judged) in
    let rows = one_row_at next fields others later (subst (λ (p : Place). AreWhole p others) place_is later') both.1 in
    ap (λ (first : List ℕ). first ∷ fields) both.0 ∙ ap (λ (more : List (List ℕ)). field' ∷ more) rows

pub one_row : (list : List ℕ) (fields others : List (List ℕ)) → HasFields list fields → HasFields list others → fields ≡ others
one_row list fields others one other = one_row_at start.place fields others one.whole other.whole (sym one.parts ∙ other.parts)
