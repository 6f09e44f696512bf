-- By how much the stored bytes grow by reading a specification file.
use Rattle.std.specs.Prelude.{◌≡◌, ℕ, ◌+◌, ◌≤◌, ◌⊎◌, List, length, Option}
use Rattle.krl_entries.specs.Revocations.{Revocations, IsStoredAtMost}
use Rattle.krl_spec.specs.Under.{bytes_under}
use Rattle.krl_types.specs.Entry.{Entry, RangeEntry, IdEntry, KeyEntry, Sha1Entry}
use Rattle.krl_types.specs.Entry.{Sha256Entry}

-- At most `size` more bytes are stored, with the current authority counted once.
abbrev pub GrowsUnder : List ℕ → ℕ → Revocations → Revocations → Type 0
GrowsUnder authority size old new =
    (n : ℕ) → IsStoredAtMost authority old n → IsStoredAtMost authority new (n + size)

-- The same for the bytes of a text, with a current authority or none.
abbrev pub GrowsBy : Option (List ℕ) → List ℕ → Revocations → Revocations → Type 0
GrowsBy authority text = GrowsUnder (bytes_under authority) (length text)

-- `size` bytes suffice for an entry of this length, also if it is under another authority, whose
-- bytes are counted too.
abbrev pub HasRoom : List ℕ → ℕ → List ℕ → ℕ → Type 0
HasRoom current size authority bytes =
    ((authority ≡ current) × (bytes ≤ size)) ⊎ (length authority + bytes ≤ size)

-- An entry stores at most `size` more bytes, if the bytes of one authority are not counted.
abbrev pub Fits : List ℕ → ℕ → Entry → Type 0
Fits current size (RangeEntry authority lo hi) = HasRoom current size authority 0
Fits current size (IdEntry authority text) = HasRoom current size authority (length text)
Fits current size (KeyEntry blob) = length blob ≤ size
Fits current size (Sha1Entry hash) = 20 ≤ size
Fits current size (Sha256Entry hash) = 32 ≤ size
Fits current size entry = ⊥
