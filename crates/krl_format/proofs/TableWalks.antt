-- A walk goes through a field, and through the fields of a table.
use Rattle.krl_format.proofs.Common.{[], ◌++◌, ◌+◌, ◌-◌, ◌<◌, ◌^◌, ◌∙◌, ◌∷◌, ◌≡◌, ◌≤◌, ap, append_assoc}
use Rattle.krl_format.proofs.Common.{arith, BeginsWithPart, Bool, cond, eq-eqb, Err, Expected, expected}
use Rattle.krl_format.proofs.Common.{false, Field, HasRoom, judge, KrlFault, le-ltb}
use Rattle.krl_format.proofs.Common.{table_front, BeginsWithTable, length, length-append, length-number}
use Rattle.krl_format.proofs.Common.{length-string, List, ltb, None, Number, number, number_of-number}
use Rattle.krl_format.proofs.Common.{number_of, Ok, Option, Place, refl, Result, row_of, slice_index, Some}
use Rattle.krl_format.proofs.Common.{next_subsection, rows_of, string, subst, suc, sym, Table, Text, true, within, zero, ℕ}
use Rattle.ssh_wire.specs.Rows.{Magnitude, Part, unless}
use Rattle.krl_format.specs.Field.{table_of}
use Rattle.krl_format.specs.Place.{length_judged, part_expected, place_after, place_in, table_end}
use Rattle.krl_format.proofs.PlaceRows.{Goes, goes_none, goes_one, goes_then, goes_from}
use Rattle.krl_format.proofs.TableRows.{after_is, fields_at, in_part, InPart, judged_alone, no_magnitude, part_room, same_table, table_or}
use Rattle.krl_types.specs.declared.krl_fault.KrlFault.TheVariants as faults
use Rattle.krl_format.specs.declared.place.Place.TheVariants as places
use Rattle.krl_format.specs.declared.place.field.Table.TheVariants as tables

-- ---- a field, and the place after it

-- a field of which it is known what is expected
goes_as : {p q : Place} {rest : List ℕ} (about : Expected) (field : List ℕ) → expected p ≡ about → HasRoom about → length field ≡ about.size → about.judged field ≡ Ok q → Goes p (field ++ rest) q rest
goes_as about field is room size judged =
    goes_one field (subst HasRoom (sym is) room) (size ∙ sym (ap (λ (e : Expected). e.size) is)) (ap (λ (e : Expected). e.judged field) is ∙ judged)

-- a length and content that is read in parts
pub content_goes : {p q r : Place} {rest : List ℕ} (content : List ℕ) → HasRoom (expected p) → (expected p).size ≡ 4 → length content < 2 ^ 32
    → ((field : List ℕ) → number_of field ≡ length content → (expected p).judged field ≡ Ok q) → Goes q (content ++ rest) r rest → Goes p (string content ++ rest) r rest
unfolding string
content_goes {rest = rest} content room size fits judged w =
    let n : List ℕ = number 4 (length content) in
    goes_from (append_assoc n content rest)
    (goes_then (goes_one n room (length-number 4 (length content) ∙ sym size) (judged n (number_of-number 4 (length content) fits))) w)

-- a text: its length, and its content
pub text_goes : {p q r : Place} {bytes value left : List ℕ} → BeginsWithPart Text bytes value left → HasRoom (expected p) → (expected p).size ≡ 4
    → ((field : List ℕ) → number_of field ≡ length value → (expected p).judged field ≡ Ok q)
    → HasRoom (expected q) → length value ≡ (expected q).size → (expected q).judged value ≡ Ok r → Goes p bytes r left
text_goes {value = value} begins room size judged room' size' judged' =
    goes_from begins.spelled (content_goes value room size begins.is_part judged (goes_one value room' size' judged'))

-- a length that fits passes, and the judgement is that of its value
pub within_is : (left : ℕ) (next : ℕ → Result Place KrlFault) (size n : ℕ) → size ≡ n → n ≤ left - 4 → within left next size ≡ next n
within_is left next size n e le =
    let f : ltb (left - 4) size ≡ false = le-ltb (left - 4) size (omega arith) in
    ap (λ (b : Bool). cond b (Err faults.Length) (next size)) f ∙ ap next e

pub judge_is : (b : Bool) (why : KrlFault) (p : Place) → b ≡ true → judge b why p ≡ Ok p
judge_is b why p e = ap (λ (x : Bool). judge x why p) e

-- ---- a table

-- what is left of the part after a text
abbrev inner : Table → Option Field → (left size : ℕ) → ℕ
inner tables.Extension None left size = 0
inner tables.Extension (Some next) left size = left - 4 - size
inner tables.Certificates next left size = left - 4 - size
inner _ next left size = left

-- the sizes of a text in a part
abbrev Fits : Table → Option Field → (left size : ℕ) → Type 0
Fits tables.Extension None left size = left ≡ 4 + size
Fits tables.Extension (Some next) left size = 4 + size ≤ left
Fits _ next left size = 4 + size ≤ left

length_passes : (field : Field) (table : Table) (next : Option Field) (left after size n : ℕ) → size ≡ n → InPart table (Fits table next left n) → length_judged field table next left after size ≡ Ok (places.Content field n (inner table next left n) after)
length_passes field tables.Extension None left after size n e fits =
    let all : size ≡ left - 4 = omega (arith, e, fits) in
    judge_is _ faults.Length (places.Content field size 0 after) (eq-eqb size (left - 4) all) ∙ ap (λ (m : ℕ). Ok (places.Content field m 0 after)) e
length_passes field tables.Extension (Some next) left after size n e fits =
    within_is left (λ m. Ok (places.Content field m (left - 4 - m) after)) size n e (omega (arith, fits))
length_passes field tables.Certificates next left after size n e fits =
    within_is left (λ m. Ok (places.Content field m (left - 4 - m) after)) size n e (omega (arith, fits))
length_passes field tables.Header next left after size n e fits = ap (λ (m : ℕ). Ok (places.Content field m left after)) e
length_passes field tables.Signature next left after size n e fits = ap (λ (m : ℕ). Ok (places.Content field m left after)) e

-- the bytes after a field, and those after its table
abbrev TailFits : Option Field → (tail rest : List ℕ) → Type 0
TailFits None tail rest = length tail ≡ length rest
TailFits (Some next) tail rest = length rest ≤ length tail

tail_fits : (next : Option Field) (before values : List (List ℕ)) (tail rest : List ℕ) → BeginsWithTable (rows_of (fields_at next)) before tail values rest → TailFits next tail rest
tail_fits None before values tail rest leads = ap length leads.1
tail_fits (Some next) before values tail rest leads =
    let f = table_front (rows_of (fields_at (Some next))) before tail values rest leads in omega (arith, ap length f.1, length-append f.0 rest)

tail_le : (next : Option Field) (tail rest : List ℕ) → TailFits next tail rest → length rest ≤ length tail
tail_le None tail rest fits = omega (arith, fits)
tail_le (Some next) tail rest fits = fits

-- how many bytes of the part are left after the table
abbrev pub Ends : Table → ℕ → Type 0
Ends tables.Extension end = end ≡ 0
Ends _ end = Unit {0}

-- The fields of the table, and the bytes of the part after it, fill what is left of the part.
abbrev Fill : (left end : ℕ) (bytes rest : List ℕ) → Type 0
Fill left end bytes rest = length bytes + end ≡ left + length rest

text_fits : (table : Table) (next : Option Field) (left end size : ℕ) (bytes tail rest : List ℕ) → Ends table end → TailFits next tail rest → length bytes ≡ 4 + size + length tail → Fill left end bytes rest → Fits table next left size
text_fits tables.Extension None left end size bytes tail rest ends fits parts filled = omega (arith, ends, fits, parts, filled)
text_fits tables.Extension (Some next) left end size bytes tail rest ends fits parts filled = omega (arith, ends, fits, parts, filled)
text_fits _ next left end size bytes tail rest ends fits parts filled = omega (arith, tail_le next tail rest fits, parts, filled)

inner_fits : (table : Table) (next : Option Field) (left end size : ℕ) (bytes tail rest : List ℕ) → Ends table end → TailFits next tail rest → length bytes ≡ 4 + size + length tail → InPart table (Fill left end bytes rest)
    → InPart table (Fill (inner table next left size) end tail rest)
inner_fits tables.Extension None left end size bytes tail rest ends fits parts filled = omega (arith, ends, fits)
inner_fits tables.Extension (Some next) left end size bytes tail rest ends fits parts filled = omega (arith, ends, fits, parts, filled)
inner_fits tables.Certificates next left end size bytes tail rest ends fits parts filled = omega (arith, tail_le next tail rest fits, parts, filled)
inner_fits tables.Header next left end size bytes tail rest ends fits parts filled = tt
inner_fits tables.Signature next left end size bytes tail rest ends fits parts filled = tt

same_end : (table : Table) (left end after : ℕ) → InPart table (left ≡ end) → table_end table left after ≡ table_end table end after
same_end tables.Certificates left end after e = ap next_subsection e
same_end _ left end after e = refl

-- the first field of the rest of a table
row_goes : (f : Field) (part : Part) (left end after : ℕ) (before : List (List ℕ)) (bytes value tail rest : List ℕ) → (row_of f).row.part ≡ part → BeginsWithPart (row_of f).row.part bytes value tail → (row_of f).row.judged before value ≡ None
    → TailFits (row_of f).next tail rest → Ends (row_of f).table end → InPart (row_of f).table (Fill left end bytes rest)
    → ((left : ℕ) → InPart (row_of f).table (Fill left end tail rest) → Goes (place_after f left after) tail (table_end (row_of f).table end after) rest)
    → Goes (places.Field f left after) bytes (table_end (row_of f).table end after) rest
row_goes f (Number size) left end after before bytes value tail rest is begins passed fits ends filled walk =
    let table = (row_of f).table in
    let b = subst (λ (part : Part). BeginsWithPart part bytes value tail) is begins in
    let n : ℕ = slice_index value 0 in
    let passes : (row_of f).row.judged [] (number_of (number size n) ∷ []) ≡ None =
    ap (λ (m : ℕ). (row_of f).row.judged [] (m ∷ [])) (number_of-number size n b.is_part.1) ∙ ap (λ (v : List ℕ). (row_of f).row.judged [] v) (sym b.is_part.0) ∙ sym (judged_alone f before value) ∙ passed in
    let parts : length bytes ≡ size + length tail = ap length b.spelled ∙ omega (arith, length-append (number size n) tail, length-number size n) in
    let le = tail_le (row_of f).next tail rest fits in
    goes_from b.spelled
    (goes_then (goes_as (part_expected f (Number size) left after) (number size n) (ap (λ (part : Part). part_expected f part left after) is)
    (part_room table left _ (in_part table (λ (all : Fill left end bytes rest). omega (arith, all, parts, le)) filled)) (length-number size n) (ap (λ o. unless o (place_after f (left - size) after)) passes))
    (walk (left - size) (in_part table (λ (all : Fill left end bytes rest). omega (arith, all, parts, le)) filled)))
row_goes f Text left end after before bytes value tail rest is begins passed fits ends filled walk =
    let table = (row_of f).table in
    let next = (row_of f).next in
    let b = subst (λ (part : Part). BeginsWithPart part bytes value tail) is begins in
    let same : part_expected f (row_of f).row.part left after ≡ part_expected f Text left after = ap (λ (part : Part). part_expected f part left after) is in
    let n = length value in
    let parts : length bytes ≡ 4 + n + length tail = ap length b.spelled ∙ omega (arith, length-append (string value) tail, length-string value) in
    let le = tail_le next tail rest fits in
    let sizes : InPart table (Fits table next left n) = in_part table (text_fits table next left end n bytes tail rest ends fits parts) filled in
    goes_then (text_goes b (subst HasRoom (sym same) (part_room table left _ (in_part table (λ (all : Fill left end bytes rest). omega (arith, all, parts, le)) filled))) (ap (λ (e : Expected). e.size) same)
    (λ field e. ap (λ (x : Expected). x.judged field) same ∙ length_passes f table next left after (number_of field) n e sizes) tt refl refl)
    (walk (inner table next left n) (inner_fits table next left end n bytes tail rest ends fits parts filled))
row_goes f Magnitude left end after before bytes value tail rest is begins passed fits ends filled walk = absurd (no_magnitude f is)

-- the fields of a table from one on, of which there are fewer than `most`
table_goes : (most : ℕ) (table : Table) (at : Option Field) (left end after : ℕ) (before values : List (List ℕ)) (bytes rest : List ℕ) → length (fields_at at) < most → table_or table at ≡ table
    → BeginsWithTable (rows_of (fields_at at)) before bytes values rest → Ends table end → InPart table (Fill left end bytes rest) → Goes (place_in table at left after) bytes (table_end table end after) rest
table_goes most table None left end after before values bytes rest lt same leads ends filled =
    let here : InPart table (left ≡ end) = in_part table (λ (all : Fill left end bytes rest). omega (arith, all, ap length leads.1)) filled in
    subst (λ (p : Place). Goes p bytes (table_end table end after) rest) (sym (same_end table left end after here)) (goes_from leads.1 goes_none)
table_goes zero table (Some f) left end after before values bytes rest lt same leads ends filled = absurd (omega (arith, lt))
table_goes (suc most) table (Some f) left end after before values bytes rest lt same (value, tail, begins, passed, later) ends filled =
    let next = (row_of f).next in
    let next_values : List (List ℕ) = before ++ value ∷ [] in
    let others = rw (after_is f) at later in
    let fewer : length (fields_at next) < most = omega (arith, lt, ap length (after_is f)) in
    let ends' = subst (λ (t : Table). Ends t end) (sym same) ends in
    let walk = λ (left : ℕ) (filled : InPart (row_of f).table (Fill left end tail rest)). table_goes most (row_of f).table next left end after next_values values tail rest fewer (same_table f) others ends' filled in
    subst (λ (t : Table). Goes (places.Field f left after) bytes (table_end t end after) rest) same
    (row_goes f (row_of f).row.part left end after before bytes value tail rest refl begins passed (tail_fits next next_values values tail rest others) ends'
    (subst (λ (t : Table). InPart t (Fill left end bytes rest)) (sym same) filled) walk)

-- A whole table, whose values are any. The part around it has `end` bytes after the table.
pub fields_go : (first : Field) (left end after : ℕ) (values : List (List ℕ)) (bytes rest : List ℕ) → BeginsWithTable (table_of first) [] bytes values rest → Ends (row_of first).table end
    → InPart (row_of first).table (length bytes + end ≡ left + length rest) → Goes (places.Field first left after) bytes (table_end (row_of first).table end after) rest
fields_go first left end after values bytes rest leads ends filled =
    table_goes (suc (length (fields_at (Some first)))) (row_of first).table (Some first) left end after [] values bytes rest (omega arith) refl leads ends filled
