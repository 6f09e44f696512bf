-- The names in entries: serial numbers, key IDs and keys.
use Rattle.std.specs.Prelude.{◌≡◌, ℕ, ◌<◌, ◌≤◌, ◌⊎◌, ◌↔◌, List, [], ◌∷◌, Contains}
use Rattle.serial_set.specs.BitRuns.{BitNames}
use Rattle.krl_types.specs.Entry.{Entry, SerialsEntry, RangeEntry, BitmapEntry, IdEntry, KeyEntry}
use Rattle.krl_types.specs.Entry.{Sha1Entry, Sha256Entry}

-- A name: a serial number or a key ID under exactly one authority, which is empty for all
-- authorities, or a key, by its blob or by one of its hashes.
pub data Name : Type 0 where
  SerialOf : (authority : List ℕ) (serial : ℕ) → Name
  IdOf : (authority text : List ℕ) → Name
  KeyOf : (blob : List ℕ) → Name
  Sha1Of : (hash : List ℕ) → Name
  Sha256Of : (hash : List ℕ) → Name

-- The entry names it. The serial number 0 names no certificate.
abbrev pub EntryNames : Entry → Name → Type 0
EntryNames (SerialsEntry b numbers) (SerialOf a s) = (b ≡ a) × ((0 < s) × Contains numbers s)
EntryNames (RangeEntry b min max) (SerialOf a s) = (b ≡ a) × ((0 < s) × ((min ≤ s) × (s ≤ max)))
EntryNames (BitmapEntry b offset number) (SerialOf a s) = (b ≡ a) × BitNames offset number s
EntryNames (IdEntry b id) (IdOf a text) = (b ≡ a) × (id ≡ text)
EntryNames (KeyEntry key) (KeyOf blob) = key ≡ blob
EntryNames (Sha1Entry of_key) (Sha1Of hash) = of_key ≡ hash
EntryNames (Sha256Entry of_key) (Sha256Of hash) = of_key ≡ hash
EntryNames _ _ = ⊥

-- some entry names it
abbrev pub SomeNames : List Entry → Name → Type 0
SomeNames [] name = ⊥
SomeNames (entry ∷ entries) name = EntryNames entry name ⊎ SomeNames entries name

-- two lists of entries name the same
abbrev pub NamesSame : (entries others : List Entry) → Type 0
NamesSame entries others = (name : Name) → SomeNames entries name ↔ SomeNames others name
