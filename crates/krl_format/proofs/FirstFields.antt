-- The first fields of a list, whose sizes depend on no length.
use Rattle.krl_format.proofs.Common.{[], ◌+◌, ◌-◌, ◌<◌, ◌∷◌, ◌≡◌, ◌≤◌, ap, arith, concat, expected}
use Rattle.krl_format.proofs.Common.{Field, fields_after, LeadsTo, MayLackMemory, NeedsMemory}
use Rattle.krl_format.proofs.Common.{length, length-append, length-take, limit, List, None, Number, number_of, Ok, Option}
use Rattle.krl_format.proofs.Common.{Passes, Place, refl, row_of, Some, start, State, state_after}
use Rattle.krl_format.proofs.Common.{subst, Table, unless_ok, ℕ}
use Rattle.ssh_wire.specs.Rows.{Part}
use Rattle.krl_format.specs.Place.{part_judged, part_size, place_after, place_in}
use Rattle.krl_format.proofs.TableRows.{after_is, fields_at, same_table, table_or}
use Rattle.krl_format.specs.declared.place.field.Table.TheVariants as tables
use Rattle.krl_format.specs.declared.place.Place.TheVariants as places
use Rattle.krl_format.specs.declared.place.field.Field.TheVariants as fields

-- memory may be needed for a large field
pub large_needs : (p : Place) (field : List ℕ) → 32 < (expected p).size → NeedsMemory p field
large_needs (places.Field fields.FormatVersion left after) field large = absurd (omega arith)
large_needs (places.Field f left after) field large = absurd (omega arith)
large_needs (places.Content fields.Comment size left after) field large = omega arith
large_needs (places.Content fields.Authority size left after) field large = omega arith
large_needs (places.Content f size left after) field large = large
large_needs (places.Item kind size left after) field large = tt
large_needs (places.Byte offset size left after) field large = tt
large_needs _ field large = absurd (omega arith)

-- how many bytes the numbers have at the front of a table, with the length of the first string
abbrev fixed_size : Part → ℕ → ℕ
fixed_size (Number size) more = size + more
fixed_size part more = 4

abbrev fixed_sizes : List Field → ℕ
fixed_sizes [] = 0
fixed_sizes (field ∷ fields) = fixed_size (row_of field).row.part (fixed_sizes fields)

abbrev in_header : Table → ℕ → ℕ
in_header tables.Header size = size
in_header _ size = 0

-- how many bytes the first fields have from a place on
abbrev pub fixed_left : Place → ℕ
fixed_left (places.Field field left after) = in_header (row_of field).table (fixed_sizes (fields_at (Some field)))
fixed_left _ = 0

none_left : (p : Place) (field : List ℕ) → NeedsMemory p field → fixed_left p ≡ 0
none_left (places.Field f left after) field needs = absurd needs
none_left _ field needs = refl

in_header_within : (table : Table) (size : ℕ) → in_header table size ≤ size
in_header_within tables.Header size = omega arith
in_header_within _ size = omega arith

in_header_at_most : (table : Table) (size more : ℕ) → in_header table (size + more) ≤ size + in_header table more
in_header_at_most tables.Header size more = omega arith
in_header_at_most _ size more = omega arith

left_at : (table : Table) (next : Option Field) (left after : ℕ) → table_or table next ≡ table → in_header table (fixed_sizes (fields_at next)) ≤ fixed_left (place_in table next left after)
left_at tables.Header None left after same = omega arith
left_at _ None left after same = omega arith
left_at table (Some field) left after same =
    subst (λ (t : Table). in_header t (fixed_sizes (fields_at (Some field))) ≤ fixed_left (places.Field field left after)) same (omega arith)

part_left : (f : Field) (part : Part) (left after : ℕ) (next : Place) (field : List ℕ) → length field ≡ part_size part → part_judged f part left after field ≡ Ok next
    → in_header (row_of f).table (fixed_size part (fixed_sizes (fields_after f))) ≤ length field + fixed_left next
part_left f (Number size) left after next field whole judged =
    let table = (row_of f).table in
    let w = unless_ok ((row_of f).row.judged [] (number_of field ∷ [])) (place_after f (left - size) after) next judged in
    let others = rw (← after_is f, w.1) at (left_at table (row_of f).next (left - size) after (same_table f)) in
    omega (arith, whole, in_header_at_most table size (fixed_sizes (fields_after f)), others)
part_left f part left after next field whole judged = omega (arith, whole, in_header_within (row_of f).table 4)

field_left : (p next : Place) (field : List ℕ) → Passes p field next → fixed_left p ≤ length field + fixed_left next
field_left (places.Field f left after) next field passes = part_left f (row_of f).row.part left after next field passes.whole passes.judged
field_left _ next field passes = omega arith

fields_left : (from last : State) (fields : List (List ℕ)) → LeadsTo from fields last → fixed_left last.place ≡ 0 → fixed_left from.place ≤ length (concat fields)
fields_left from last [] leads none =
    omega (arith, ap (λ (state : State). fixed_left state.place) leads)
fields_left from last (field ∷ fields) leads none =
    omega (arith, field_left from.place leads.0 field leads.1.0, fields_left (state_after from field leads.0) last fields leads.1.1 none, length-append field (concat fields))

-- The first fields have 40 bytes together.
pub fixed_room : (text : List ℕ) → MayLackMemory text → 40 ≤ length text
fixed_room text lacks =
    omega (
      arith,
      fields_left start lacks.state lacks.fields lacks.front.leads (none_left lacks.state.place _ lacks.needs),
      ap length lacks.front.parts,
      length-append (concat lacks.fields) lacks.rest,
      length-take limit text,
    )
