-- From each place and for any bytes, the fields lead to a place where something is reported.
use Rattle.krl_format.proofs.Common.{[], ◌*◌, ◌++◌, ◌+◌, ◌<◌, ◌∙◌, ◌∷◌, ◌≡◌, ◌≤◌, ◌⊎◌, ap, arith}
use Rattle.krl_format.proofs.Common.{Bool, can_end, cases_Bool, cases_lt, drop, ended, ends_early}
use Rattle.krl_format.proofs.Common.{expected, false, Field, false≢true, HasRoom, IfSome, inl, inr}
use Rattle.krl_format.proofs.Common.{IsFirstKrlFault, ItemKind, KrlFault, length, length-drop}
use Rattle.krl_format.proofs.Common.{length-take, limit, List, ltb, next_item, next_subsection}
use Rattle.krl_format.proofs.Common.{no_room, None, Ok, ok_or_not, Option, Place, refl, refused}
use Rattle.krl_format.proofs.Common.{Reported, row_of, Some, start, suc, sym, Table, take}
use Rattle.krl_format.proofs.Common.{take-append-drop, too_long, true, zero, ℕ}
use Rattle.krl_format.specs.Place.{place_in}
use Rattle.krl_format.proofs.Fronts.{first_fault_is}
use Rattle.krl_format.proofs.PlaceRows.{Goes, goes_from, goes_none, goes_one, goes_then, reported_at}
use Rattle.krl_format.proofs.Judgements.{done, same_place}
use Rattle.krl_types.specs.declared.krl_fault.KrlFault.TheVariants as faults
use Rattle.krl_format.specs.declared.place.Place.TheVariants as places
use Rattle.krl_format.specs.declared.place.field.Field.TheVariants as fields
use Rattle.krl_format.specs.declared.place.field.Table.TheVariants as tables

room_or_not : (size : ℕ) (room : Option ℕ) → IfSome room (λ left. size ≤ left) ⊎ (IfSome room (λ left. size ≤ left) → ⊥)
room_or_not size None = inl tt
room_or_not size (Some left) = elim (cases_lt left size) [ inl lt ↦ inr (λ h. absurd (omega arith)) | inr le ↦ inl le ]

-- the report if fewer bytes came than the field has
pub end_or_early : (p : Place) (rest : List ℕ) → HasRoom (expected p) → length rest < (expected p).size → Reported p rest false None ⊎ Reported p rest false (Some faults.EndsEarly)
end_or_early p [] room short =
    elim (cases_Bool (can_end p)) [
      | inl here ↦ inl (ended (here, refl) refl refl)
      | inr other ↦ inr (ends_early room short (λ at. false≢true (sym other ∙ at.0)) refl refl)
    ]
end_or_early p (x ∷ rest) room short = inr (ends_early room short (λ at. let none = at.1 in absurd cc) refl refl)

-- a field that is not whole is reported
short_reported : (p : Place) (rest : List ℕ) (goes_on : Bool) → HasRoom (expected p) → length rest < (expected p).size → (fault : Option KrlFault) × Reported p rest goes_on fault
short_reported p rest true room short = (Some faults.TooLong, too_long room short refl refl)
short_reported p rest false room short = elim (end_or_early p rest room short) [ inl end ↦ (None, end) | inr early ↦ (Some faults.EndsEarly, early) ]

-- after a field that may be empty comes one that is not
abbrev pub weight : Place → ℕ
weight (places.Content field n m k) = 1
weight (places.Item kind n m k) = 1
weight _ = 0

pub weight_below : (p : Place) → weight p < 2
weight_below (places.Content field n m k) = omega arith
weight_below (places.Item kind n m k) = omega arith
weight_below _ = omega arith

weight-next_subsection : (left : ℕ) → weight (next_subsection left) ≡ 0
weight-next_subsection zero = refl
weight-next_subsection (suc left) = refl

weight-next_item : (kind : ItemKind) (left after : ℕ) → weight (next_item kind left after) ≡ 0
weight-next_item kind zero after = weight-next_subsection after
weight-next_item kind (suc left) after = refl

weight-place_in : (table : Table) (next : Option Field) (left after : ℕ) → weight (place_in table next left after) ≡ 0
weight-place_in tables.Certificates None left after = weight-next_subsection left
weight-place_in tables.Extension None left after = weight-next_subsection after
weight-place_in _ None left after = refl
weight-place_in table (Some field) left after = refl

-- a number, or the length of a string, is not empty
field_size : (field : Field) (left after : ℕ) → 1 ≤ (expected (places.Field field left after)).size
field_size fields.FormatVersion left after = omega arith
field_size _ left after = omega arith

same_weight : {p q : Place} → done p ≡ done q → weight p ≡ weight q
same_weight {p} {q} e = ap weight (same_place p q e)

-- each field brings the end nearer
pub nearer : (p q : Place) (field : List ℕ) → (expected p).judged field ≡ Ok q → weight q < 2 * (expected p).size + weight p
nearer (places.Field f left after) q field e = omega (arith, field_size f left after, weight_below q)
nearer (places.Content f n left after) q field e = omega (arith, same_weight e, weight-place_in (row_of f).table (row_of f).next left after)
nearer (places.Item kind n m k) q field e = omega (arith, same_weight e, weight-next_item kind m k)
nearer _ q field e = omega (arith, weight_below q)

-- some fields lead to a place where something is reported
record Stops (place : Place) (bytes : List ℕ) (goes_on : Bool) : Type 0 where
  last : Place
  rest : List ℕ
  goes : Goes place bytes last rest
  fault : Option KrlFault
  reported : Reported last rest goes_on fault

stops_here : {p : Place} {bytes : List ℕ} {goes_on : Bool} (fault : Option KrlFault) → Reported p bytes goes_on fault → Stops p bytes goes_on
stops_here {p} {bytes} fault reported = record { last = p; rest = bytes; goes = goes_none; fault = fault; reported = reported }

stops_from : (n : ℕ) (p : Place) (bytes : List ℕ) (goes_on : Bool) → 2 * length bytes + weight p < n → Stops p bytes goes_on
stops_from zero p bytes goes_on lt = absurd (omega arith)
stops_from (suc n) p bytes goes_on lt =
    elim (room_or_not (expected p).size (expected p).room) [
      | inr full ↦ stops_here (Some faults.Length) (no_room full refl)
      | inl room ↦ elim (cases_lt (length bytes) (expected p).size) [
        | inl short ↦ let t = short_reported p bytes goes_on room short in stops_here t.0 t.1
        | inr enough ↦
            let field : List ℕ = take (expected p).size bytes in
            let rest : List ℕ = drop (expected p).size bytes in
            let parts : bytes ≡ field ++ rest = sym (take-append-drop (expected p).size bytes) in
            let size : length field ≡ (expected p).size = omega (arith, length-take (expected p).size bytes) in
            let left : length rest + (expected p).size ≡ length bytes = omega (arith, length-drop (expected p).size bytes) in
            elim (ok_or_not ((expected p).judged field)) [
              | inl w ↦
                  let t = stops_from n w.0 rest goes_on (omega (arith, nearer p w.0 field w.1, left, lt)) in
                  record { last = t.last; rest = t.rest; goes = goes_from parts (goes_then (goes_one field room size w.1) t.goes); fault = t.fault; reported = t.reported }
              | inr w ↦ stops_here (Some w.0) (refused field rest w.0 room parts size w.1 refl)
            ]
      ]
    ]

pub each_is_judged : (text : List ℕ) → (fault : Option KrlFault) × IsFirstKrlFault text fault
each_is_judged text =
    let t = stops_from (suc (2 * length (take limit text) + weight start.place)) start.place (take limit text) (ltb limit (length text)) (omega arith) in
    (t.fault, first_fault_is text t.fault (reported_at start refl t.goes t.reported))
