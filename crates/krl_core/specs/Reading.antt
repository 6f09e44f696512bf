-- How far a walk has read a list, field by field.
use Rattle.std.specs.Prelude.{◌≡◌, ℕ, ◌+◌, ◌*◌, ◌<◌, ◌≤◌, ◌⊎◌, ◌↔◌, Bool, true, false, List, []}
use Rattle.std.specs.Prelude.{◌∷◌, ◌++◌, length, Option, Some, None, IsSome, Result, Ok, Err}
use Rattle.std.specs.Prelude.{IfSome}
use Rattle.std.specs.List.{concat}
use Rattle.std.specs.Io.KnownBytes.{IsAtEnd, Keeps}
use Rattle.ssh_wire.specs.Wire.{IsBytes}
use Rattle.byte_streams.specs.Pull.{Pull, Refuses, left_of}
use Rattle.ssh_wire.specs.declared.pull_fault.PullFault.{PullFault}
use Rattle.krl_types.specs.KrlFault.{reported_as}
use Rattle.krl_types.specs.declared.krl_fault.KrlFault.{KrlFault}
use Rattle.krl_types.specs.declared.krl_fault.KrlFault.TheVariants.{Length, Read}
use Rattle.krl_format.specs.declared.place.Place.{Place}
use Rattle.krl_format.specs.declared.header.Header.{Header}
use Rattle.krl_entries.specs.Revocations.{Revocations, Means, held, stored}
use Rattle.krl_format.specs.Entries.{entries_of}
use Rattle.krl_format.specs.Krl.{SpelledSection, Spells}
use Rattle.krl_format.specs.Front.{State, start, LeadsTo, Passes, HasRoom, limit}
use Rattle.krl_core.specs.FieldStore.{InStep, StoresEntries, FieldStore, StoresInScope}
use Rattle.krl_core.specs.FieldStore.{StoresAtMost}
use Rattle.krl_core.specs.FieldStore.{held_with_open, stored_header}
use Rattle.krl_format.specs.Place.{can_end, expected}
use Rattle.krl_types.specs.Entry.{Entry}
use Rattle.krl_entries.specs.Scope.{MeansInScope, Scope, IsInScope, all}
use Rattle.krl_format.specs.Faults.{Says}

-- A walk: the reader, the place where the next field is expected, the field store, whether the end
-- of the list was found, and the fault, if any.
pub record Walk : Type 0 where
  pub pull : Pull
  pub place : Place
  pub stored : FieldStore
  pub ended : Bool
  pub fault : Option KrlFault

-- a walk before the end of the list, without a fault
abbrev pub working : Pull → Place → FieldStore → Walk
working pull place stored =
    record { pull = pull; place = place; stored = stored; ended = false; fault = None }

-- a walk that found the end of the list
abbrev pub at_its_end : Pull → Place → FieldStore → Walk
at_its_end pull place stored =
    record { pull = pull; place = place; stored = stored; ended = true; fault = None }

-- The walk has read exactly these fields of the text. They lead to its place, its field store
-- stored what they name, and its reader has the rest of the text left.
pub record HasRead (text : List ℕ) (fields : List (List ℕ)) (reading : Walk) : Type 0 where
  pub state : State
  pub leads : LeadsTo start fields state
  pub place_is : reading.place ≡ state.place
  pub authority_is : reading.stored.authority ≡ state.authority
  pub header_is : reading.stored.header ≡ stored_header reading.stored.scope state.header
  pub stores : StoresEntries reading.stored state.entries
  pub are_bytes : IsBytes (concat fields)
  pub rest : List ℕ
  pub left_is : left_of reading.pull ≡ Some rest
  pub parts : text ≡ concat fields ++ rest
  pub taken_is : reading.pull.taken ≡ length (concat fields)
  pub works : reading.pull.failed ≡ false
  pub faultless : reading.fault ≡ None

-- The walk has read some fields of the bytes that the reader had left before.
abbrev pub HasReadOf : (before : Option (List ℕ)) → Walk → Type 0
HasReadOf before reading =
    (text : List ℕ) → before ≡ Some text → (fields : List (List ℕ)) × HasRead text fields reading

-- If a sequence of fields was read before, that sequence with one more field is read now.
abbrev pub ReadsOneMore : Walk → Walk → Type 0
ReadsOneMore old new =
    (text : List ℕ) (fields : List (List ℕ)) → HasRead text fields old
    → (field : List ℕ) × HasRead text (fields ++ field ∷ []) new

-- One whole field that passes its judgement leads from one walk to the other.
pub record Follows (old new : Walk) : Type 0 where
  pub field : List ℕ
  pub passes : Passes old.place field new.place
  pub reads : ReadsOneMore old new
  pub taken : new.pull.taken ≡ old.pull.taken + length field
  pub within : new.pull.taken ≤ limit
  pub scope_is : new.stored.scope ≡ old.stored.scope
  pub faultless : new.fault ≡ None
  pub works : new.pull.failed ≡ false

-- The end of the list was found: it is expected, no byte is left, and there was no fault.
pub record IsEnded (reading : Walk) : Type 0 where
  pub ended : reading.ended ≡ true
  pub may_end : can_end reading.place ≡ true
  pub at_end : IsAtEnd (left_of reading.pull)
  pub faultless : reading.fault ≡ None
  pub works : reading.pull.failed ≡ false

-- The fields that were read are the whole list.
pub record Ends (old new : Walk) : Type 0 where
  pub is : IsEnded new
  pub still : (text : List ℕ) (fields : List (List ℕ)) → HasRead text fields old
      → HasRead text fields new × (text ≡ concat fields)
  pub scope_is : new.stored.scope ≡ old.stored.scope

-- The result is `Read` exactly if the reader failed.
abbrev pub ReportsFailure : {A : Type 0} → Result A KrlFault → Bool → Type 0
ReportsFailure (Ok a) failed = failed ≡ false
ReportsFailure (Err fault) failed = fault ≡ Read ↔ failed ≡ true

-- The fault says this about the text, no matter which of its fields were read before.
abbrev pub Refused : KrlFault → Walk → Pull → Type 0
Refused fault old new =
    (text : List ℕ) (fields : List (List ℕ)) → HasRead text fields old
    → Says fault text new.failed new.source

-- The walk stopped at this fault, and keeps it.
pub record Stops (fault : KrlFault) (old new : Walk) : Type 0 where
  pub says : Refused fault old new.pull
  pub failure : old.fault ≡ None → (fault ≡ Read ↔ new.pull.failed ≡ true)
  pub stays : new.fault ≡ Some fault

-- After the end was found, the reader is not asked again. A fault is returned from then on.
pub record Repeats (old : Walk) (result : Result Bool KrlFault) (new : Walk) : Type 0 where
  pub rests : old.ended ≡ true → (result ≡ Ok false) × (new ≡ old)
  pub again : IfSome old.fault (λ fault. (result ≡ Err fault) × (new ≡ old))

-- ---- the parts of a step

-- It was tested whether the list ends at this place, and no byte was taken.
pub record LooksFor (place : Place) (old : Pull) (ended : Bool) (new : Pull) : Type 0 where
  pub bytes : Keeps (left_of old) (left_of new)
  pub taken : new.taken ≡ old.taken
  pub limit_is : new.limit ≡ old.limit
  pub works : new.failed ≡ false
  pub faultless : new.fault ≡ None
  pub at_end : ended ≡ true → (can_end place ≡ true) × IsAtEnd (left_of new)
  pub goes_on : ended ≡ false → can_end place ≡ true → IsSome new.ahead

-- why an expected field was not taken
pub data Missed (place : Place) (old : Pull) (fault : KrlFault) (new : Pull) : Type 0 where
  -- the part around the field has fewer bytes left
  no_room : (HasRoom (expected place) → ⊥) → fault ≡ Length → new ≡ old → Missed place old fault new
  -- the text ended, the limit was reached, or a read or an allocation failed
  cut : (why : PullFault) → HasRoom (expected place) → Refuses old (expected place).size why new
      → fault ≡ reported_as why → Missed place old fault new

-- The taken bytes are within the limit, and the stored entries within the scope. If all names are
-- in scope, the number of stored spans and the stored bytes are bounded by the taken bytes.
pub record IsBounded (pull : Pull) (stored : FieldStore) : Type 0 where
  pub limit_is : pull.limit ≡ limit
  pub within : pull.taken ≤ limit
  pub all_is : stored.scope ≡ all
      → (held_with_open stored ≤ 4 * pull.taken) × StoresAtMost stored pull.taken
  pub scope_is : StoresInScope stored

-- The walk is one that the code can reach.
pub record IsReached (reading : Walk) : Type 0 where
  pub in_step : reading.fault ≡ None → InStep reading.place reading.stored.bitmap
  pub pull_faultless : reading.fault ≡ None → reading.pull.fault ≡ None
  pub works : reading.fault ≡ None → reading.pull.failed ≡ false
  pub ends : reading.ended ≡ true → IsEnded reading
  pub bounded : IsBounded reading.pull reading.stored

-- The stored entries mean what the entries name in scope, and are within the scope. If all names
-- are in scope, they are bounded by the size of the text.
pub record HoldsInScope (scope : Scope) (text : List ℕ) (r : Revocations) (entries : List Entry)
    : Type 0 where
  pub means : MeansInScope scope r entries
  pub within : IsInScope scope r
  pub bounds : scope ≡ all → (held r ≤ 4 * length text) × (stored r ≤ length text)

-- The stored entries are within the scope. If all names are in scope, they are bounded by the
-- largest size of a list.
pub record IsWithinLimit (scope : Scope) (r : Revocations) : Type 0 where
  pub within : IsInScope scope r
  pub bounds : scope ≡ all → (held r ≤ 4 * limit) × (stored r ≤ limit)

-- A property holds of a header whose stored parts are `stored`.
abbrev pub OfHeader : Scope → (stores : Header) → (Header → Type 0) → Type 0
OfHeader scope stores Holds =
    (header : Header) × (stores ≡ stored_header scope header) × Holds header

-- The stored entries mean all that the entries name, and are bounded by the size of the text.
pub record HoldsAll (text : List ℕ) (r : Revocations) (entries : List Entry) : Type 0 where
  pub means : Means r entries
  pub held_is : held r ≤ 4 * length text
  pub stored_is : stored r ≤ length text

-- A whole list was read: its fields lead from the first byte to the end. The header and the stored
-- entries are those of the fields.
pub record IsWholeAs (Holds : List ℕ → Revocations → List Entry → Type 0) (text : List ℕ)
    (header : Header) (contents : Revocations) : Type 0 where
  pub fields : List (List ℕ)
  pub state : State
  pub leads : LeadsTo start fields state
  pub text_is : text ≡ concat fields
  pub within : length text ≤ limit
  pub are_bytes : IsBytes text
  pub may_end : can_end state.place ≡ true
  pub header_is : header ≡ state.header
  pub holds : Holds text contents state.entries

abbrev pub IsWhole : List ℕ → Header → Revocations → Type 0
IsWhole = IsWholeAs HoldsAll

-- A list was read: a header and sections spell the text, and the stored entries are what the
-- sections name.
pub record IsListAs (Holds : List ℕ → Revocations → List Entry → Type 0) (text : List ℕ)
    (header : Header) (contents : Revocations) : Type 0 where
  pub sections : List SpelledSection
  pub spelled : Spells text header sections
  pub within : length text ≤ limit
  pub holds : Holds text contents (entries_of sections)

abbrev pub IsList : List ℕ → Header → Revocations → Type 0
IsList = IsListAs HoldsAll

-- The result of reading a text: the known facts about it, or its fault, if it is known whether the
-- reader failed and which bytes it has left.
abbrev pub IsReadAs : {K : Type 0} → (List ℕ → K → Type 0) → List ℕ → Result K KrlFault → Bool
    → Option (List ℕ) → Type 0
IsReadAs Knows text (Ok known) failed left = Knows text known
IsReadAs Knows text (Err fault) failed left = Says fault text failed left

-- The result of a reading, if the bytes that the reader had left before are known. The result is
-- `Read` exactly if the reader failed.
pub record IsResultOf {K : Type 0} (Knows : List ℕ → K → Type 0) (before : Option (List ℕ))
    (outcome : Result K KrlFault) (failed : Bool) (left : Option (List ℕ)) : Type 0 where
  pub failure : ReportsFailure outcome failed
  pub read : (text : List ℕ) → before ≡ Some text → IsReadAs Knows text outcome failed left

-- If a sequence of fields was read before, that sequence with some more is read now.
abbrev pub ReadsMore : Walk → Walk → Type 0
ReadsMore old new =
    (text : List ℕ) (fields : List (List ℕ)) → HasRead text fields old
    → (more : List (List ℕ)) × HasRead text (fields ++ more) new

-- Some more fields were read, without a fault.
pub record LeadsOn (old new : Walk) : Type 0 where
  pub reads : ReadsMore old new
  pub faultless : new.fault ≡ None
  pub scope_is : new.stored.scope ≡ old.stored.scope

-- One field or some bytes were read.
pub record Advances (old new : Walk) : Type 0 where
  pub leads : LeadsOn old new
  pub progress : Follows old new ⊎ (old.pull.taken < new.pull.taken)
  pub within : new.pull.taken ≤ limit
  pub works : new.pull.failed ≡ false

-- Some more fields were read, and the next one would exceed this number of bytes.
pub record ReadsUpTo (most : ℕ) (old new : Walk) : Type 0 where
  pub leads : LeadsOn old new
  pub full : most < new.pull.taken + (expected new.place).size
  pub within : old.pull.taken ≤ most → new.pull.taken ≤ most
  pub works : new.pull.failed ≡ false

-- The walk has read to the end of the list.
pub record EndsAfter (old new : Walk) : Type 0 where
  pub is : IsEnded new
  pub whole : (text : List ℕ) (fields : List (List ℕ)) → HasRead text fields old
      → (more : List (List ℕ)) × HasRead text (fields ++ more) new
      × (text ≡ concat (fields ++ more))
  pub scope_is : new.stored.scope ≡ old.stored.scope
