-- Names that a reader gives, each of which a zero byte ends.
use Rattle.std.specs.Prelude.{◌≡◌, ℕ, ◌+◌, ◌-◌, ◌^◌, ◌==◌, if◌then◌else◌, Bool, true, List, [], ◌∷◌}
use Rattle.std.specs.Prelude.{◌++◌, length, take, Option, Result, Ok, Err}
use Rattle.std.specs.Io.KnownBytes.{Consumes, IsAtEnd}
use Rattle.audit_run.specs.declared.reading.Came.{Came}
use Rattle.audit_run.specs.declared.reading.Came.TheVariants as cames

-- ---- the names of some bytes

-- The names that these bytes hold, after the front of the first name. A zero byte ends each name.
unfoldable pub names_after : (front bytes : List ℕ) → List (List ℕ)
names_after front [] = []
names_after front (byte ∷ bytes) =
    if byte == 0 then front ∷ names_after [] bytes else names_after (front ++ byte ∷ []) bytes

-- the front of a name that these bytes leave unended
unfoldable pub rest_after : (front bytes : List ℕ) → List ℕ
rest_after front [] = front
rest_after front (byte ∷ bytes) =
    if byte == 0 then rest_after [] bytes else rest_after (front ++ byte ∷ []) bytes

-- ---- a reader of names

-- the most bytes of names that are read
abbrev pub most_bytes : ℕ
most_bytes = 2 ^ 64 - 1

-- The bytes that are left as far as the reader knows them, whether it has failed, and how many more
-- bytes are read at most.
pub record Unread : Type 0 where
  pub left : Option (List ℕ)
  pub failed : Bool
  pub room : ℕ

-- none of these bytes was read
abbrev pub unread : Option (List ℕ) → (failed : Bool) → Unread
unread left failed = record { left = left; failed = failed; room = most_bytes }

-- these bytes came
pub record Comes (old new : Unread) (bytes : List ℕ) : Type 0 where
  pub consumed : Consumes old.left new.left bytes
  pub counted : old.room ≡ new.room + length bytes

-- Bytes came that hold these names, and after them this front of another one.
pub record Gives (old new : Unread) (names : List (List ℕ)) (front : List ℕ) : Type 0 where
  pub came : List ℕ
  pub comes : Comes old new came
  pub names_are : names_after [] came ≡ names
  pub front_is : rest_after [] came ≡ front

-- Why no more bytes come: none is left, as many came as are read, or the reader failed.
abbrev pub HasEnded : (Failed : Type 0) → Unread → Came → Type 0
HasEnded Failed now cames.All = IsAtEnd now.left
HasEnded Failed now cames.More = now.room ≡ 0
HasEnded Failed now cames.Failed = (now.failed ≡ true) × Failed

-- A name came, or the front of one that no zero byte ends, after which no more bytes come. If it
-- has more than `most` bytes, only the first `most + 1` are kept.
abbrev pub IsNext : (Failed : Type 0) → (most : ℕ) → (old new : Unread) → (name : List ℕ)
    → Result (Unit {0}) Came → Type 0
IsNext Failed most old new name (Ok done) =
    (full : List ℕ) × (Gives old new (full ∷ []) [] × (name ≡ take (most + 1) full))
IsNext Failed most old new name (Err why) =
    (full : List ℕ) × (Gives old new [] full × ((name ≡ take (most + 1) full)
    × HasEnded Failed new why))
