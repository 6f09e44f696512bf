-- Which lines have a name.
use Rattle.std.specs.Prelude.{◌≡◌, ℕ, Bool, ◌&&◌, ◌||◌, nat_eq, List, [], ◌∷◌, ◌++◌, map, Option}
use Rattle.std.specs.Prelude.{Some, None, if◌then◌else◌}
use Rattle.std.specs.BTreeMap.{is_at}
use Rattle.std.specs.Map.{lookup}
use Rattle.std.specs.Global.{Vec}
use Rattle.std.specs.Int.{from_be_bytes, w64}
use Rattle.std.specs.List.{filter, flat_map, list_any}
use Rattle.std.specs.Ordering.{nat_cmp}
use Rattle.sha2.specs.Sha256.{sha256}
use Rattle.krl_types.specs.Naming.{IdOf, KeyOf, Name, SerialOf, Sha1Of, Sha256Of}
use Rattle.krl_entries.specs.Tested.{entry_names}
use Rattle.text_index.specs.Fronts.{fronts}
use Rattle.text_index.specs.Postings.{entry_of}
use Rattle.text_index.specs.declared.name_index.NameIndex.{NameIndex}
use Rattle.text_index.specs.declared.posting.Posting.{Posting}

abbrev pub all_of : Option (Vec Posting) → List Posting
all_of None = []
all_of (Some postings) = postings.items

-- the postings under a number
unfoldable pub postings_at : NameIndex → (key : ℕ) → List Posting
postings_at index key = all_of (lookup (is_at (nat_cmp key)) index.entries)

-- the number under which an item is kept: the first eight bytes of its SHA-256
unfoldable pub item_key : List ℕ → ℕ
item_key item = from_be_bytes w64 (sha256 item)

-- the numbers under which lines with this name are kept
abbrev pub keys_of : Name → List ℕ
keys_of (SerialOf authority serial) = fronts 64 serial
keys_of (IdOf authority id) = item_key id ∷ []
keys_of (KeyOf blob) = item_key blob ∷ []
keys_of (Sha1Of hash) = item_key hash ∷ []
keys_of (Sha256Of hash) = item_key hash ∷ []

abbrev pub numbers_among : List Posting → Name → List ℕ
numbers_among postings name =
    map (λ posting. posting.line) (filter (λ posting. entry_names (entry_of posting) name) postings)

-- the numbers of the lines that have the name and are at this key
unfoldable pub numbers_at : NameIndex → (key : ℕ) → Name → List ℕ
numbers_at index key name = numbers_among (postings_at index key) name

-- the numbers of the lines that have the name
unfoldable pub numbers : NameIndex → Name → List ℕ
numbers index name = flat_map (λ key. numbers_at index key name) (keys_of name)

-- ---- changes

-- The key has one more posting.
pub record Puts (key : ℕ) (posting : Posting) (old new : NameIndex) : Type 0 where
  pub at_each : (other : ℕ) → postings_at new other
      ≡ (if nat_eq key other then postings_at old other ++ posting ∷ [] else postings_at old other)

-- A line has these names, beside those that lines had.
pub record AddsNames (line : ℕ) (names : Name → Bool) (old new : NameIndex) : Type 0 where
  pub of_each : (name : Name) (other : ℕ) → list_any (nat_eq other) (numbers new name)
      ≡ (list_any (nat_eq other) (numbers old name) || (names name && nat_eq other line))
