-- The scope of revocations: the names that they answer for, which are all names or some topics.
use Rattle.std.specs.Prelude.{◌≡◌, ℕ, ◌+◌, ◌-◌, ◌*◌, ◌≤◌, ◌↔◌, List, [], ◌++◌, take, drop}
use Rattle.std.specs.Prelude.{Option, Some, None, Contains, ⊤}
use Rattle.sha1.specs.Sha1.{sha1}
use Rattle.sha2.specs.Sha256.{sha256}
use Rattle.ssh_wire.specs.Wire.{number_of}
use Rattle.krl_entries.specs.Revocations.{Revocations, HoldsId, HoldsName, HoldsSerial, IsOrderly}
use Rattle.krl_types.specs.Entry.{Entry}
use Rattle.krl_types.specs.Naming.{IdOf, KeyOf, Name, SerialOf, Sha1Of, Sha256Of, SomeNames}

-- the name is one of the topics, or the hash of a key that is one
abbrev pub IsTopic : (topics : Revocations) → Name → Type 0
IsTopic topics (SerialOf a s) = HoldsSerial topics.sections a s
IsTopic topics (IdOf a text) = HoldsId topics.sections a text
IsTopic topics (KeyOf blob) = Contains topics.keys blob
IsTopic topics (Sha1Of hash) = (blob : List ℕ) × (Contains topics.keys blob × (sha1 blob ≡ hash))
IsTopic topics (Sha256Of hash) =
    (blob : List ℕ) × (Contains topics.keys blob × (sha256 blob ≡ hash))

-- all names, or those of some topics
abbrev pub Scope : Type 0
Scope = Option Revocations

abbrev pub all : Scope
all = None

abbrev pub InScope : Scope → Name → Type 0
InScope None name = ⊤
InScope (Some topics) name = IsTopic topics name

-- A name in scope is held exactly if some entry names it. All that is held is in order.
pub record MeansInScope (scope : Scope) (r : Revocations) (entries : List Entry) : Type 0 where
  pub orderly : IsOrderly r
  pub names : (name : Name) → InScope scope name → HoldsName r name ↔ SomeNames entries name

-- If the old revocations mean some entries within the scope, the new ones mean them and these
-- entries.
abbrev pub MeansMoreInScope : Scope → (old new : Revocations) (more : List Entry) → Type 0
MeansMoreInScope scope old new more =
    (entries : List Entry) → MeansInScope scope old entries
    → MeansInScope scope new (entries ++ more)

-- The part of a list's comment that is kept: nothing if only some topics are in scope.
abbrev pub stored_comment : Scope → List ℕ → List ℕ
stored_comment None comment = comment
stored_comment (Some topics) comment = []

-- ---- the amount that is held

-- a run of serial numbers that is held under exactly this authority begins with the number
abbrev pub BeginsRun : Revocations → (authority : List ℕ) (serial : ℕ) → Type 0
BeginsRun r a s = HoldsSerial r.sections a s × (HoldsSerial r.sections a (s - 1) → ⊥)

-- Only topics are held, in order. A run of serial numbers begins with a topic and may continue past
-- it.
pub record HoldsOnlyTopics (topics r : Revocations) : Type 0 where
  pub orderly : IsOrderly r
  pub runs : (a : List ℕ) (s : ℕ) → BeginsRun r a s → HoldsSerial topics.sections a s
  pub ids : (a text : List ℕ) → HoldsId r.sections a text → HoldsId topics.sections a text
  pub keys : (blob : List ℕ) → Contains r.keys blob → Contains topics.keys blob
  pub sha1s : (hash : List ℕ) → Contains r.sha1s hash → IsTopic topics (Sha1Of hash)
  pub sha256s : (hash : List ℕ) → Contains r.sha256s hash → IsTopic topics (Sha256Of hash)

-- the revocations are within the scope
abbrev pub IsInScope : Scope → Revocations → Type 0
IsInScope None r = ⊤
IsInScope (Some topics) r = HoldsOnlyTopics topics r

-- ---- serial numbers that are no topics

-- the serial number at this index, where each is eight bytes long
abbrev pub serial_at : List ℕ → ℕ → ℕ
serial_at bytes count = number_of (take 8 (drop (8 * count) bytes))

-- none of the serial numbers in the first bytes has a property
abbrev pub NoneHolds : (ℕ → Type 0) → (bytes : List ℕ) → (count : ℕ) → Type 0
NoneHolds Holds bytes count = (k : ℕ) → 8 * k + 8 ≤ count → Holds (serial_at bytes k) → ⊥

-- none of the serial numbers in the first bytes is in scope under the authority
abbrev pub AreOutOfScope : Scope → (authority bytes : List ℕ) → (count : ℕ) → Type 0
AreOutOfScope scope authority bytes count =
    NoneHolds (λ s. InScope scope (SerialOf authority s)) bytes count
