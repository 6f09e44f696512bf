-- The entries of a list, or of a line of a specification file (PROTOCOL.krl; ssh-keygen(1), KEY
-- REVOCATION LISTS).
use Rattle.std.specs.Prelude.{ℕ, List}

-- An entry. A serial number or a key ID is under an authority, given by its bytes. No bytes mean
-- all authorities.
pub data Entry : Type 0 where
  -- each of the numbers
  SerialsEntry : (authority numbers : List ℕ) → Entry
  -- the numbers from the first to the last
  RangeEntry : (authority : List ℕ) (min max : ℕ) → Entry
  -- offset + N for each bit N of the number that is set
  BitmapEntry : (authority : List ℕ) (offset number : ℕ) → Entry
  IdEntry : (authority text : List ℕ) → Entry
  -- a key, by its blob
  KeyEntry : (blob : List ℕ) → Entry
  -- a key, by the hash of its blob
  Sha1Entry : (hash : List ℕ) → Entry
  Sha256Entry : (hash : List ℕ) → Entry
