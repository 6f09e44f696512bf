-- The field store of a walk: the parts that it stores of the fields that were read.
use Rattle.std.specs.Prelude.{◌≡◌, ℕ, ◌+◌, ◌-◌, ◌<◌, Bool, true, false, ◌*◌, ◌≤◌, None, List}
use Rattle.std.specs.Prelude.{[], ◌∷◌, ◌++◌, length}
use Rattle.std.specs.Option.{option_to_list}
use Rattle.serial_set.specs.declared.span.Span.{Span}
use Rattle.serial_set.specs.declared.bit_fault.BitFault.{BitFault}
use Rattle.serial_set.specs.BitRuns.{BitRuns, HasFault}
use Rattle.krl_format.specs.declared.header.Header.{Header}
use Rattle.krl_format.specs.declared.place.Place.{Place}
use Rattle.krl_format.specs.declared.place.Place.TheVariants as places
use Rattle.krl_format.specs.declared.place.field.Field.TheVariants as fields
use Rattle.krl_entries.specs.Changes.{run_entries}
use Rattle.krl_entries.specs.Revocations.{Revocations, IsStoredAtMost, held}
use Rattle.krl_types.specs.Entry.{Entry, BitmapEntry}
use Rattle.krl_types.specs.Naming.{NamesSame}
use Rattle.krl_format.specs.Place.{names, authority_after, header_after, base_of}
use Rattle.krl_entries.specs.Scope.{MeansInScope, Scope, IsInScope, stored_comment}

-- The stored parts of the header, the authority in force, the stored entries, the scope that they
-- answer for, and how far the current bitmap is read.
pub record FieldStore : Type 0 where
  pub header : Header
  pub authority : List ℕ
  pub contents : Revocations
  pub scope : Scope
  pub bitmap : BitRuns

-- The stored parts of a header: all but the comment if only some topics are in scope.
abbrev pub stored_header : Scope → Header → Header
stored_header scope header = record header { comment = stored_comment scope header.comment }

-- the stored parts of the header after a field
abbrev pub stored_header_after : Scope → Place → Header → List ℕ → Header
stored_header_after scope (places.Content fields.Comment size room_before room_after) header field =
    record header { comment = stored_comment scope field }
stored_header_after scope place header field = header_after place header field

-- the run of the current bitmap that its next byte may continue
abbrev pub open_run : FieldStore → List Span
open_run stored = option_to_list stored.bitmap.pending

-- The stored entries mean some entries in their scope. With the open run, these entries name the
-- same as `entries`.
pub record StoresEntries (stored : FieldStore) (entries : List Entry) : Type 0 where
  pub closed : List Entry
  pub means : MeansInScope stored.scope stored.contents closed
  pub same : NamesSame (closed ++ run_entries stored.authority (open_run stored)) entries

-- At a byte of a bitmap, the bytes before it were fed. At other places, no run is open.
abbrev pub InStep : Place → BitRuns → Type 0
InStep (places.Byte offset size room_before room_after) bitmap =
    (0 < room_before)
    × (bitmap ≡ record {
      offset = offset;
      len = size;
      bytes_left = room_before;
      pending = bitmap.pending;
      fault = None;
    })
InStep _ bitmap = bitmap.pending ≡ None

-- the number of stored spans, with the open run as one more
abbrev pub held_with_open : FieldStore → ℕ
held_with_open stored = held stored.contents + length (open_run stored)

-- the stored entries and the authority in force have at most n bytes
abbrev pub StoresAtMost : FieldStore → ℕ → Type 0
StoresAtMost stored n = IsStoredAtMost stored.authority stored.contents n

-- Only the stored entries changed.
pub record ChangesOnlyEntries (old new : FieldStore) : Type 0 where
  pub authority_is : new.authority ≡ old.authority
  pub header_is : new.header ≡ old.header
  pub bitmap_is : new.bitmap ≡ old.bitmap
  pub scope_is : new.scope ≡ old.scope

-- The field store stored these entries too.
abbrev pub AddsEntries : FieldStore → List Entry → FieldStore → Type 0
AddsEntries old named new =
    (entries : List Entry) → StoresEntries old entries → StoresEntries new (entries ++ named)

-- These entries were added, and nothing else changed.
pub record Adds (old : FieldStore) (named : List Entry) (new : FieldStore) : Type 0 where
  pub stores : AddsEntries old named new
  pub rest : ChangesOnlyEntries old new

-- These entries were added, whatever the authority in force is then. The stored entries stay within
-- the scope.
pub record Gains (old : FieldStore) (named : List Entry) (new : FieldStore) : Type 0 where
  pub stores : AddsEntries old named new
  pub header_is : new.header ≡ old.header
  pub bitmap_is : new.bitmap ≡ old.bitmap
  pub scope_is : new.scope ≡ old.scope
  pub within : IsInScope old.scope old.contents → IsInScope new.scope new.contents

-- The entries of a field were added. The authority, the header and the bitmap are those after the
-- field.
pub record StoresField (place : Place) (field : List ℕ) (next : Place) (old new : FieldStore)
    : Type 0 where
  pub stores : AddsEntries old (names place old.authority field) new
  pub authority_is : new.authority ≡ authority_after place old.authority field
  pub header_is : new.header ≡ stored_header_after old.scope place old.header field
  pub in_step : InStep next new.bitmap
  pub scope_is : new.scope ≡ old.scope

-- The bitmap has a byte left, and this byte has no fault.
pub record TakesByte (bitmap : BitRuns) (byte : ℕ) : Type 0 where
  pub bytes_left : 0 < bitmap.bytes_left
  pub good : (fault : BitFault) → HasFault bitmap byte fault → ⊥

-- The entry of a byte of the current bitmap was added. After the last byte no run is open.
pub record StoresBits (byte : ℕ) (last : Bool) (old new : FieldStore) : Type 0 where
  pub stores : AddsEntries old
      (BitmapEntry old.authority (base_of old.bitmap.offset old.bitmap.bytes_left) byte ∷ []) new
  pub authority_is : new.authority ≡ old.authority
  pub header_is : new.header ≡ old.header
  pub scope_is : new.scope ≡ old.scope
  pub closed : last ≡ true → new.bitmap.pending ≡ None
  pub goes_on : last ≡ false → new.bitmap
      ≡ record old.bitmap { bytes_left = old.bitmap.bytes_left - 1; pending = new.bitmap.pending }

-- The field store has the same entries, and no run is open.
pub record Closes (old new : FieldStore) : Type 0 where
  pub stores : AddsEntries old [] new
  pub authority_is : new.authority ≡ old.authority
  pub header_is : new.header ≡ old.header
  pub scope_is : new.scope ≡ old.scope
  pub closed : new.bitmap.pending ≡ None

-- the stored entries are within the scope
abbrev pub StoresInScope : FieldStore → Type 0
StoresInScope stored = IsInScope stored.scope stored.contents

-- The bytes of the stored entries stay within any bound that they were within. The stored entries
-- stay within the scope.
pub record StoresNoMore (old new : FieldStore) : Type 0 where
  pub stored_is : (m : ℕ) → StoresAtMost old m → StoresAtMost new m
  pub scope_is : StoresInScope old → StoresInScope new
  pub same_scope : new.scope ≡ old.scope

-- At most n bytes of the list made the field store grow, also if an allocation failed in between.
pub record GrowsAtMost (n : ℕ) (old new : FieldStore) : Type 0 where
  pub held_is : held_with_open new ≤ held_with_open old + 4 * n
  pub stored_is : (m : ℕ) → StoresAtMost old m → StoresAtMost new (m + n)
  pub scope_is : StoresInScope old → StoresInScope new
  pub same_scope : new.scope ≡ old.scope

-- The field store has the same entries, no run is open, and this many bytes of the current bitmap
-- were skipped.
pub record Skips (count : ℕ) (old new : FieldStore) : Type 0 where
  pub closes : Closes old new
  pub bitmap_is : new.bitmap
      ≡ record old.bitmap { bytes_left = old.bitmap.bytes_left - count; pending = None }
