-- Values whose numbers are counts, and whose depth is at most a given number.
use Rattle.std.proofs.Common.{◌≡◌, ℕ, ◌+◌, ◌<◌, ◌≤◌, ◌^◌, Bool, true, false, List, [], ◌∷◌, ◌++◌, refl, arith}
use Rattle.std.specs.Str.{is_utf8}
use Rattle.json.specs.Json.{Json}
use Rattle.json.specs.Tree.{depth, items_depth, members_depth}
use Rattle.json_lines.specs.Field.{Field, array_of, digits_field, items_of, members_of, number_field, object_of, text_field, word_field}
use Rattle.json_lines.specs.ReadBack.{HasCounts, ItemsHaveCounts, MembersHaveCounts}

abbrev pub Fits : ℕ → Json → Type 0
Fits d value = HasCounts value × (depth value ≤ d)

abbrev pub FieldsFit : ℕ → List Field → Type 0
FieldsFit d [] = Unit {0}
FieldsFit d (one ∷ more) = Fits d one.value × FieldsFit d more

abbrev pub ValuesFit : ℕ → List Json → Type 0
ValuesFit d [] = Unit {0}
ValuesFit d (one ∷ more) = Fits d one × ValuesFit d more

-- ---- lists

pub fields_fit : (d : ℕ) (a b : List Field) → FieldsFit d a → FieldsFit d b → FieldsFit d (a ++ b)
fields_fit d [] b first second = second
fields_fit d (one ∷ more) b first second = (first.0, fields_fit d more b first.1 second)

pub values_fit : (d : ℕ) (a b : List Json) → ValuesFit d a → ValuesFit d b → ValuesFit d (a ++ b)
values_fit d [] b first second = second
values_fit d (one ∷ more) b first second = (first.0, values_fit d more b first.1 second)

-- ---- objects and arrays

members_fit : (d : ℕ) (fields : List Field) → FieldsFit d fields → MembersHaveCounts (members_of fields) × (members_depth (members_of fields) ≤ d)
members_fit d [] fit = (tt, omega arith)
members_fit d (one ∷ more) fit =
    let rest = members_fit d more fit.1 in
    let first = fit.0.1 in
    let later = rest.1 in ((fit.0.0, rest.0), omega arith)

items_fit : (d : ℕ) (values : List Json) → ValuesFit d values → ItemsHaveCounts (items_of values) × (items_depth (items_of values) ≤ d)
items_fit d [] fit = (tt, omega arith)
items_fit d (one ∷ more) fit =
    let rest = items_fit d more fit.1 in
    let first = fit.0.1 in
    let later = rest.1 in ((fit.0.0, rest.0), omega arith)

pub object_fits : (d : ℕ) (fields : List Field) → FieldsFit d fields → Fits (d + 1) (object_of fields)
object_fits d fields fit =
    let members = members_fit d fields fit in
    let shallow = members.1 in (members.0, omega arith)

pub array_fits : (d : ℕ) (values : List Json) → ValuesFit d values → Fits (d + 1) (array_of values)
array_fits d values fit =
    let items = items_fit d values fit in
    let shallow = items.1 in (items.0, omega arith)

pub deeper : (d e : ℕ) (value : Json) → d ≤ e → Fits d value → Fits e value
deeper d e value more fit =
    let shallow = fit.1 in (fit.0, omega arith)

-- ---- fields

pub word_fits : (d : ℕ) (name word : List ℕ) → Fits d (word_field name word).value
word_fits d name word = (tt, omega arith)

pub digits_fit : (d : ℕ) (name : List ℕ) (count : ℕ) → Fits d (digits_field name count).value
digits_fit d name count = (tt, omega arith)

pub number_fits : (d : ℕ) (name : List ℕ) (count : ℕ) → count < 2 ^ 64 → Fits d (number_field name count).value
number_fits d name count small = ((count, (small, refl)), omega arith)

text_by : (d : ℕ) (name bytes : List ℕ) (test : Bool) → is_utf8 bytes ≡ test → Fits d (text_field name bytes).value
unfolding text_field
text_by d name bytes true is = rw is (tt, omega arith)
text_by d name bytes false is = rw is (tt, omega arith)

pub text_fits : (d : ℕ) (name bytes : List ℕ) → Fits d (text_field name bytes).value
text_fits d name bytes = text_by d name bytes (is_utf8 bytes) refl
