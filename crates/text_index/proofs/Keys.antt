-- The subject of a line is found under its number.
use Rattle.std.proofs.Common.{◌≡◌, ℕ, List, [], ◌∷◌, ◌&&◌, nat_eq, nat_lt, nat_le, Bool, true, false, ap, append-nil, bytes_eq}
use Rattle.std.specs.List.{list_any}
use Rattle.std.proofs.lemmas.Bool.{and_parts, eq-eqb, false≢true, leb-true, or_left}
use Rattle.std.proofs.lemmas.Slice.Eq.{bytes_eq-Decides}
use Rattle.serial_set.specs.declared.span.Span.{Span}
use Rattle.krl_types.specs.Entry.{Entry, RangeEntry}
use Rattle.krl_types.specs.Item.{item_entry}
use Rattle.krl_types.specs.Naming.{IdOf, KeyOf, Name, SerialOf, Sha1Of, Sha256Of}
use Rattle.krl_types.specs.declared.item_kind.ItemKind.{ItemKind}
use Rattle.krl_types.specs.declared.item_kind.ItemKind.TheVariants as kinds
use Rattle.krl_entries.specs.Named.{item_name}
use Rattle.krl_entries.specs.Tested.{entry_names}
use Rattle.text_index.specs.Fronts.{IsCommonFront}
use Rattle.text_index.specs.NameIndex.{item_key, keys_of, numbers, numbers_at}
use Rattle.text_index.specs.declared.name_index.NameIndex.{NameIndex}
use Rattle.text_index.proofs.CommonFronts.{serial_has_front}

-- Under this number is each name that the entry has.
abbrev pub IsKeyFor : Entry → ℕ → Type 0
IsKeyFor entry key = (name : Name) → entry_names entry name ≡ true → list_any (nat_eq key) (keys_of name) ≡ true

in_span : (low some over : Bool) → (some && (low && over)) ≡ true → (low ≡ true) × (over ≡ true)
in_span low some over holds =
    let rest = (and_parts some (low && over) holds).1 in
    and_parts low over rest

pub span_key : (authority : List ℕ) (span : Span) (common : ℕ) → IsCommonFront span.lo span.hi common → IsKeyFor (RangeEntry authority span.lo span.hi) common
span_key authority span common is (SerialOf a s) holds =
    let rest = (and_parts (bytes_eq authority a) _ holds).1 in
    let both = in_span (nat_le span.lo s) (nat_lt 0 s) (nat_le s span.hi) rest in
    serial_has_front span.lo span.hi common s is (leb-true span.lo s both.0) (leb-true s span.hi both.1)
span_key authority span common is (IdOf a id) holds = absurd (false≢true holds)
span_key authority span common is (KeyOf blob) holds = absurd (false≢true holds)
span_key authority span common is (Sha1Of hash) holds = absurd (false≢true holds)
span_key authority span common is (Sha256Of hash) holds = absurd (false≢true holds)

one_key : (item other : List ℕ) → bytes_eq item other ≡ true → list_any (nat_eq (item_key item)) (item_key other ∷ []) ≡ true
one_key item other same =
    or_left (nat_eq (item_key item) (item_key other)) false (eq-eqb (item_key item) (item_key other) (ap item_key ((bytes_eq-Decides item other).0 same)))

pub has_item_key : (kind : ItemKind) (authority item : List ℕ) → IsKeyFor (item_entry kind authority item) (item_key item)
has_item_key kinds.Id authority item (IdOf a id) holds = one_key item id (and_parts (bytes_eq authority a) (bytes_eq item id) holds).1
has_item_key kinds.Key authority item (KeyOf blob) holds = one_key item blob holds
has_item_key kinds.Sha1 authority item (Sha1Of hash) holds = one_key item hash holds
has_item_key kinds.Sha256 authority item (Sha256Of hash) holds = one_key item hash holds
has_item_key _ authority item _ holds = absurd (false≢true holds)

-- ---- the one key of an item

pub item_numbers : (index : NameIndex) (kind : ItemKind) (authority item : List ℕ)
    → numbers index (item_name kind authority item) ≡ numbers_at index (item_key item) (item_name kind authority item)
unfolding numbers
item_numbers index kinds.Id authority item = append-nil _
item_numbers index kinds.Key authority item = append-nil _
item_numbers index kinds.Sha1 authority item = append-nil _
item_numbers index kinds.Sha256 authority item = append-nil _
