-- Tests of names: whether entries name them, and whether revocations hold them.
use Rattle.std.specs.Prelude.{ℕ, ◌-◌, ◌==◌, ◌&&◌, nat_lt, nat_le, Bool, false, List}
use Rattle.std.specs.Int.{bit_at}
use Rattle.std.specs.List.{list_any}
use Rattle.std.specs.Str.{bytes_eq}
use Rattle.serial_set.specs.Span.{has}
use Rattle.krl_types.specs.Entry.{Entry, SerialsEntry, RangeEntry, BitmapEntry, IdEntry, KeyEntry}
use Rattle.krl_types.specs.Entry.{Sha1Entry, Sha256Entry}
use Rattle.krl_types.specs.Naming.{IdOf, KeyOf, Name, SerialOf, Sha1Of, Sha256Of}
use Rattle.krl_entries.specs.Revocations.{Revocations}

-- the entry names it
abbrev pub entry_names : Entry → Name → Bool
entry_names (SerialsEntry b numbers) (SerialOf a s) =
    bytes_eq b a && (nat_lt 0 s && list_any (λ n. n == s) numbers)
entry_names (RangeEntry b min max) (SerialOf a s) =
    bytes_eq b a && (nat_lt 0 s && (nat_le min s && nat_le s max))
entry_names (BitmapEntry b offset number) (SerialOf a s) =
    bytes_eq b a && (nat_lt 0 s && (nat_le offset s && (bit_at number (s - offset) == 1)))
entry_names (IdEntry b id) (IdOf a text) = bytes_eq b a && bytes_eq id text
entry_names (KeyEntry key) (KeyOf blob) = bytes_eq key blob
entry_names (Sha1Entry of_key) (Sha1Of hash) = bytes_eq of_key hash
entry_names (Sha256Entry of_key) (Sha256Of hash) = bytes_eq of_key hash
entry_names _ _ = false

-- some entry names it
abbrev pub some_names : List Entry → Name → Bool
some_names entries name = list_any (λ entry. entry_names entry name) entries

abbrev pub is_among : List (List ℕ) → List ℕ → Bool
is_among texts text = list_any (λ other. bytes_eq other text) texts

-- the name is held
abbrev pub holds_name : Revocations → Name → Bool
holds_name r (SerialOf a s) =
    list_any (λ section. bytes_eq section.authority a && has section.spans s) r.sections
holds_name r (IdOf a text) =
    list_any (λ section. bytes_eq section.authority a && is_among section.ids text) r.sections
holds_name r (KeyOf blob) = is_among r.keys blob
holds_name r (Sha1Of hash) = is_among r.sha1s hash
holds_name r (Sha256Of hash) = is_among r.sha256s hash
