-- The fields of a table: what their rows share, and a field in front of the rest of its table.
use Rattle.krl_format.proofs.Common.{[], ◌++◌, ◌+◌, ◌-◌, ◌∙◌, ◌∷◌, ◌≡◌, ◌≤◌, ap, arith, BeginsWithPart}
use Rattle.krl_format.proofs.Common.{Entry, eqb, eqb-true, Field, fields_after, HasRoom, Header}
use Rattle.krl_format.proofs.Common.{header_with, IfSome, IsBytes, length, length-append, List, None}
use Rattle.krl_format.proofs.Common.{Number, number-number_of, number_of, Ok, Option, passed_ok, Place}
use Rattle.krl_format.proofs.Common.{refl, row_of, Some, subst, sym, Table, Text, unless_ok, ℕ}
use Rattle.ssh_wire.specs.Rows.{Magnitude, Part}
use Rattle.krl_format.specs.Field.{authority_with}
use Rattle.krl_format.specs.Place.{header_with_number, length_judged, part_expected, place_after, place_in, room_of}
use Rattle.krl_format.proofs.Judgements.{done}
use Rattle.krl_format.proofs.RestSpellings.{authority_in, Completes, FromField, FromTable, room_in, value_in}
use Rattle.krl_format.proofs.SpelledSections.{begins_number, begins_text, fits_within, row_in, row_more, row_none, subsections_from}
use Rattle.krl_types.specs.declared.krl_fault.KrlFault.TheVariants as faults
use Rattle.krl_format.specs.declared.place.Place.TheVariants as places
use Rattle.krl_format.specs.declared.place.field.Field.TheVariants as fields
use Rattle.krl_format.specs.declared.place.field.Table.TheVariants as tables

-- ---- what all rows share

-- no judgement depends on the values before
pub judged_alone : (field : Field) (before : List (List ℕ)) (value : List ℕ) → (row_of field).row.judged before value ≡ (row_of field).row.judged [] value
judged_alone fields.FormatVersion before value = refl
judged_alone _ before value = refl

pub texts_pass : (field : Field) → (row_of field).row.part ≡ Text → (before : List (List ℕ)) (value : List ℕ) → (row_of field).row.judged before value ≡ None
texts_pass fields.FormatVersion e before value = cc
texts_pass _ e before value = cc

-- a number is never the last field
numbers_lead : (field : Field) (size left : ℕ) → (row_of field).row.part ≡ Number size → room_in (row_of field).table (row_of field).next left ≡ left
numbers_lead fields.FormatVersion size left e = cc
numbers_lead _ size left e = cc

pub no_magnitude : (field : Field) → (row_of field).row.part ≡ Magnitude → ⊥
no_magnitude fields.FormatVersion e = absurd (cc)
no_magnitude _ e = absurd (cc)

-- the fields from one on, if there is one
abbrev pub fields_at : Option Field → List Field
fields_at None = []
fields_at (Some field) = field ∷ fields_after field

pub after_is : (field : Field) → fields_after field ≡ fields_at (row_of field).next
after_is fields.FormatVersion = refl
after_is _ = refl

-- the table of a field, or this one
abbrev pub table_or : Table → Option Field → Table
table_or table None = table
table_or table (Some field) = (row_of field).table

-- the next field is of the same table
pub same_table : (field : Field) → table_or (row_of field).table (row_of field).next ≡ (row_of field).table
same_table fields.FormatVersion = refl
same_table _ = refl

value_is : (field : Field) (value : List ℕ) (h : Header) → header_with field value h ≡ value_in (row_of field).table field value h
value_is fields.FormatVersion value h = refl
value_is _ value h = refl

authority_is : (field : Field) (value a : List ℕ) → authority_with field value a ≡ authority_in (row_of field).table field value a
authority_is fields.FormatVersion value a = refl
authority_is _ value a = refl

-- a number is no authority
numbers_pass : (field : Field) (size : ℕ) (value a : List ℕ) → (row_of field).row.part ≡ Number size → authority_with field value a ≡ a
numbers_pass fields.FormatVersion size value a e = refl
numbers_pass fields.Authority size value a e = absurd (cc)
numbers_pass _ size value a e = refl

-- a condition on the sizes of a table that is inside a part
abbrev pub InPart : Table → Type 0 → Type 0
InPart tables.Certificates P = P
InPart tables.Extension P = P
InPart _ P = Unit {0}

pub part_room : (table : Table) (left size : ℕ) → InPart table (size ≤ left) → IfSome (room_of table left) (λ room. size ≤ room)
part_room tables.Certificates left size h = h
part_room tables.Extension left size h = h
part_room tables.Header left size h = tt
part_room tables.Signature left size h = tt

pub in_part : (table : Table) {A P : Type 0} → (A → P) → InPart table A → InPart table P
in_part tables.Certificates f h = f h
in_part tables.Extension f h = f h
in_part tables.Header f h = tt
in_part tables.Signature f h = tt

room_part : (table : Table) (left size : ℕ) → IfSome (room_of table left) (λ room. size ≤ room) → InPart table (size ≤ left)
room_part tables.Certificates left size h = h
room_part tables.Extension left size h = h
room_part tables.Header left size h = tt
room_part tables.Signature left size h = tt

in_both : (table : Table) {A B P : Type 0} → (A → B → P) → InPart table A → InPart table B → InPart table P
in_both tables.Certificates f h k = f h k
in_both tables.Extension f h k = f h k
in_both tables.Header f h k = tt
in_both tables.Signature f h k = tt

-- ---- the rest of a table

room_some : (table : Table) (field : Field) (left : ℕ) → room_in table (Some field) left ≡ left
room_some tables.Extension field left = refl
room_some _ field left = refl

rest_at : (table : Table) (next : Option Field) (last h : Header) (a bytes : List ℕ) (more : List Entry) (left after : ℕ) → table_or table next ≡ table → Completes last h a (place_in table next left after) bytes more
    → FromTable table last h a (fields_at next) (room_in table next left) after bytes more
rest_at tables.Extension None last h a bytes more left after same k = row_none (0, omega arith, (refl, subsections_from after k))
rest_at tables.Certificates None last h a bytes more left after same k = row_none (left, omega arith, subsections_from left k)
rest_at tables.Header None last h a bytes more left after same k = row_none k
rest_at tables.Signature None last h a bytes more left after same k = row_none k
rest_at table (Some field) last h a bytes more left after same k =
    rw (room_some table field left) (subst (λ (t : Table). FromTable t last h a (fields_at (Some field)) left after bytes more) same k)

pub rest_of_table : (field : Field) (last h : Header) (a value bytes : List ℕ) (more : List Entry) (left after : ℕ)
    → Completes last (header_with field value h) (authority_with field value a) (place_after field left after) bytes more
    → FromTable (row_of field).table last (value_in (row_of field).table field value h) (authority_in (row_of field).table field value a) (fields_after field)
    (room_in (row_of field).table (row_of field).next left) after bytes more
rest_of_table field last h a value bytes more left after k =
    let table = (row_of field).table in
    let next = (row_of field).next in
    let named = subst (λ (x : List ℕ). Completes last (header_with field value h) x (place_in table next left after) bytes more) (authority_is field value a) k in
    let found = subst (λ (x : Header). Completes last x (authority_in table field value a) (place_in table next left after) bytes more) (value_is field value h) named in
    rw (after_is field) (rest_at table next last (value_in table field value h) (authority_in table field value a) bytes more left after (same_table field) found)

field_more : (table : Table) (field : Field) (others : List Field) (last h : Header) (a : List ℕ) {bytes value tail : List ℕ} (more : List Entry) (left inner after : ℕ) → BeginsWithPart (row_of field).row.part bytes value tail
    → ((before : List (List ℕ)) → (row_of field).row.judged before value ≡ None) → FromTable table last (value_in table field value h) (authority_in table field value a) others inner after tail more → InPart table (length bytes + inner ≡ left + length tail)
    → FromTable table last h a (field ∷ others) left after bytes more
field_more tables.Header field others last h a more left inner after begins passed k size = row_more begins passed k
field_more tables.Signature field others last h a more left inner after begins passed k size = row_more begins passed k
field_more tables.Certificates field others last h a more left inner after begins passed k size = row_in left inner begins passed k size
field_more tables.Extension field others last h a more left inner after begins passed k size = row_in left inner begins passed k size

-- the place after a length, and what is left of the part
length_passed : (field : Field) (table : Table) (next : Option Field) (left after n : ℕ) (q : Place) → length_judged field table next left after n ≡ Ok q
    → (inner : ℕ) × (done (places.Content field n inner after) ≡ done q) × InPart table (4 ≤ left → left ≡ 4 + n + room_in table next inner)
length_passed field tables.Extension (Some next) left after n q e =
    let w = fits_within left n _ q e in (left - 4 - n, w.1, λ room. omega (arith, w.0, room))
length_passed field tables.Extension None left after n q e =
    let w = passed_ok (eqb n (left - 4)) faults.Length _ q e in
    let all = eqb-true n (left - 4) w.0 in (0, ap done w.1, λ room. omega (arith, all, room))
length_passed field tables.Certificates next left after n q e =
    let w = fits_within left n _ q e in (left - 4 - n, w.1, λ room. omega (arith, w.0, room))
length_passed field tables.Header next left after n q e = (left, e, tt)
length_passed field tables.Signature next left after n q e = (left, e, tt)

part_front : (last h : Header) (a : List ℕ) (f : Field) (part : Part) (left after : ℕ) (q : Place) (field tail : List ℕ) (more : List Entry) → (row_of f).row.part ≡ part → IsBytes field
    → HasRoom (part_expected f part left after) → length field ≡ (part_expected f part left after).size → (part_expected f part left after).judged field ≡ Ok q
    → ((next : Place) → done next ≡ done q → Completes last (header_with_number part f field h) a next tail more) → FromField last h a f left after (field ++ tail) more
part_front last h a f (Number size) left after q field tail more is fits room whole judged k =
    let value : List ℕ = number_of field ∷ [] in
    let w = unless_ok ((row_of f).row.judged [] value) (place_after f (left - size) after) q judged in
    let here = place_after f (left - size) after in
    let same = sym (numbers_pass f size value a is) in
    let named = subst (λ (x : List ℕ). Completes last (header_with f value h) x here tail more) same (k _ (ap done w.1)) in
    let rest = rest_of_table f last h a value tail more (left - size) after named in
    let begins = subst (λ (part : Part). BeginsWithPart part (field ++ tail) value tail) (sym is) (begins_number field tail (number-number_of size field whole fits)) in
    field_more (row_of f).table f (fields_after f) last h a more left (room_in (row_of f).table (row_of f).next (left - size)) after begins (λ before. judged_alone f before value ∙ w.0) rest
    (in_part (row_of f).table (λ room. omega (arith, room, whole, length-append field tail, numbers_lead f size (left - size) is)) (room_part (row_of f).table left _ room))
part_front last h a f Text left after q field tail more is fits room whole judged k =
    let n = number_of field in
    let w = length_passed f (row_of f).table (row_of f).next left after n q judged in
    let c = k _ w.1 in
    let begins = subst (λ (part : Part). BeginsWithPart part (field ++ tail) c.content c.rest) (sym is) (begins_text field tail fits whole c) in
    field_more (row_of f).table f (fields_after f) last h a more left (room_in (row_of f).table (row_of f).next w.0) after begins (λ before. texts_pass f is before c.content) (c.then_is is)
    (in_both (row_of f).table (λ all room. omega (arith, all room, whole, c.size_is, length-append field tail, ap length c.parts, length-append c.content c.rest)) w.2 (room_part (row_of f).table left _ room))
part_front last h a f Magnitude left after q field tail more is fits room whole judged k = absurd (no_magnitude f is)

-- a number of a table, or the length of a string
pub row_front : (last h : Header) (a : List ℕ) (f : Field) (left after : ℕ) (q : Place) (field tail : List ℕ) (more : List Entry) → IsBytes field → HasRoom (part_expected f (row_of f).row.part left after)
    → length field ≡ (part_expected f (row_of f).row.part left after).size → (part_expected f (row_of f).row.part left after).judged field ≡ Ok q
    → ((next : Place) → done next ≡ done q → Completes last (header_with_number (row_of f).row.part f field h) a next tail more) → FromField last h a f left after (field ++ tail) more
row_front last h a f left after q field tail more fits room whole judged k = part_front last h a f (row_of f).row.part left after q field tail more refl fits room whole judged k
