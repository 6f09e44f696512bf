-- Fields that are read in the reader's buffer, without a call of the reader.
use Rattle.std.specs.Prelude.{◌≡◌, ℕ, ◌+◌, ◌-◌, ◌*◌, ◌≤◌, ◌<◌, Bool, true, List, ◌++◌, length, take}
use Rattle.std.specs.Prelude.{Result}
use Rattle.std.specs.Prelude.{IfOk, OnErr, OnOk, Option, Some, None}
use Rattle.std.specs.List.{concat}
use Rattle.std.specs.declared.alloc.AllocError.{AllocError}
use Rattle.ssh_wire.specs.Wire.{IsBytes, number_of}
use Rattle.krl_format.specs.declared.place.Place.{Place}
use Rattle.krl_format.specs.Front.{LeadsTo, Passes, State, start}
use Rattle.krl_format.specs.Memory.{NeedsMemory}
use Rattle.krl_format.specs.Place.{expected}
use Rattle.krl_core.specs.FieldStore.{GrowsAtMost, InStep, StoresEntries, FieldStore, StoresField}
use Rattle.krl_core.specs.FieldStore.{stored_header}
use Rattle.krl_types.specs.Naming.{SerialOf}
use Rattle.krl_entries.specs.Scope.{InScope}

-- These fields lead from a list's first byte to a place, and the field store stored what they name.
pub record HasStored (fields : List (List ℕ)) (place : Place) (stored : FieldStore) : Type 0 where
  pub state : State
  pub leads : LeadsTo start fields state
  pub place_is : place ≡ state.place
  pub authority_is : stored.authority ≡ state.authority
  pub header_is : stored.header ≡ stored_header stored.scope state.header
  pub stores : StoresEntries stored state.entries

-- The bytes are whole fields, which lead from one place to another, and the field store stored what
-- they name.
pub record ReadsBuffered (bytes : List ℕ) (place : Place) (old : FieldStore) (next : Place)
    (new : FieldStore) : Type 0 where
  pub stores : (fields : List (List ℕ)) → HasStored fields place old
      → (more : List (List ℕ)) × (HasStored (fields ++ more) next new × (concat more ≡ bytes))
  pub are_bytes : IsBytes bytes
  pub in_step : InStep next new.bitmap
  pub scope_is : new.scope ≡ old.scope

-- The bytes are whole fields and more. Memory may be needed for the field after these.
pub record RunsOut (bytes : List ℕ) (place : Place) (old : FieldStore) : Type 0 where
  pub front : List ℕ
  pub field : List ℕ
  pub after : List ℕ
  pub parts : bytes ≡ front ++ (field ++ after)
  pub next : Place
  pub stored : FieldStore
  pub reads : ReadsBuffered front place old next stored
  pub whole : length field ≡ (expected next).size
  pub needs : NeedsMemory next field

-- This many of the bytes were read, or an allocation failed at a field of them.
pub record ReadsSome (bytes : List ℕ) (count : ℕ) (result : Result (Unit {0}) AllocError)
    (place : Place) (old : FieldStore) (next : Place) (new : FieldStore) : Type 0 where
  pub within : count ≤ length bytes
  pub ok : OnOk result (ReadsBuffered (take count bytes) place old next new)
  pub ran_out : OnErr result (RunsOut (take count bytes) place old)
  pub grows : GrowsAtMost count old new
  pub none : count ≡ 0 → (next ≡ place) × (new ≡ old)

-- The field at the front of the bytes passed its judgement and what it names was stored, or an
-- allocation failed at the field. It has no bytes only if `empty` is true.
pub record ReadsWhole (bytes : List ℕ) (empty : Bool) (size : ℕ)
    (result : Result Place AllocError) (place : Place) (old new : FieldStore) : Type 0 where
  pub within : size ≤ length bytes
  pub some : size ≡ 0 → empty ≡ true
  pub whole : size ≡ (expected place).size
  pub needs : OnErr result (NeedsMemory place (take size bytes))
  pub passes : IfOk result (λ next. Passes place (take size bytes) next)
  pub stores_field : IfOk result (λ next. StoresField place (take size bytes) next old new)
  pub grows : GrowsAtMost size old new

-- The field at the front of the bytes was read, or none was and nothing changed.
abbrev pub ReadsNext : (bytes : List ℕ) (empty : Bool) → Option (ℕ × Result Place AllocError)
    → Place → (old new : FieldStore) → Type 0
ReadsNext bytes empty None place old new = new ≡ old
ReadsNext bytes empty (Some (size, result)) place old new =
    ReadsWhole bytes empty size result place old new

-- ---- fields that name nothing in scope

-- no serial number of the first `count` of the last `left` bytes of a bitmap is in scope
abbrev pub AreBitsOutOfScope : FieldStore → (offset left count : ℕ) → Type 0
AreBitsOutOfScope stored offset left count =
    (s : ℕ) → offset + 8 * (left - count) ≤ s → s < offset + 8 * left
    → InScope stored.scope (SerialOf stored.authority s) → ⊥

-- The first `count` bytes are bytes of a bitmap that has `left` bytes left. The bitmap's number is
-- not negative, no bit of it can pass 2^64-1, and no serial number of these bytes is in scope.
pub record MaySkip (stored : FieldStore) (offset size left : ℕ) (bytes : List ℕ) (count : ℕ)
    : Type 0 where
  pub there : count ≤ length bytes
  pub within : count ≤ left
  pub sign_free : left ≡ size → number_of (take 1 bytes) < 128
  pub left_is : left ≤ size
  pub fits : offset + 8 * left ≤ 18446744073709551616
  pub bits_out_of_scope : AreBitsOutOfScope stored offset left count
