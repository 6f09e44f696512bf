-- Why a blob is not a key: its first fault, determined by the fields before it.
use Rattle.std.specs.Prelude.{◌≡◌, ◌≢◌, ℕ, ◌+◌, ◌<◌, ◌≤◌, List, [], ◌++◌, length, Err}
use Rattle.ssh_wire.specs.Wire.{BeginsWith, string}
use Rattle.ssh_wire.specs.Reading.{string_at}
use Rattle.ssh_wire.specs.Rows.{Fails, BeginsWithTable}
use Rattle.ssh_wire.specs.declared.fault.WireFault.{WireFault}
use Rattle.ssh_key.specs.declared.fault.KeyFault.{KeyFault}
use Rattle.ssh_key.specs.declared.fault.KeyFault.TheVariants as faults
use Rattle.ssh_key.specs.declared.kind.Kind.{Kind}
use Rattle.ssh_key.specs.Kind.{fields_of, type_name}
use Rattle.ssh_key.specs.Key.{longest_blob}

-- The first fault of the public fields at the front of bytes. If each value is allowed, it is that
-- the blob of the type name and the fields, without the rest, is too long.
pub data IsFieldsFault (kind : Kind) (bytes : List ℕ) (fault : KeyFault) : Type 0 where
  in_field : Fails faults.Wire (fields_of kind) [] bytes fault → IsFieldsFault kind bytes fault
  long_fields : (values : List (List ℕ)) (rest : List ℕ)
      → BeginsWithTable (fields_of kind) [] bytes values rest
      → longest_blob + length rest < length (string (type_name kind) ++ bytes)
      → fault ≡ faults.TooLong → IsFieldsFault kind bytes fault

-- the first fault of a blob that is not too long
pub data IsFault (blob : List ℕ) (fault : KeyFault) : Type 0 where
  no_name : (why : WireFault) → string_at blob ≡ Err why → fault ≡ faults.Wire why
      → IsFault blob fault
  no_kind : (name : List ℕ) → BeginsWith blob name → ((kind : Kind) → type_name kind ≢ name)
      → fault ≡ faults.UnknownType → IsFault blob fault
  in_fields : (kind : Kind) (fields : List ℕ) → blob ≡ string (type_name kind) ++ fields
      → IsFieldsFault kind fields fault → IsFault blob fault
  after_fields : (kind : Kind) (values : List (List ℕ)) (fields rest : List ℕ)
      → blob ≡ string (type_name kind) ++ fields
      → BeginsWithTable (fields_of kind) [] fields values rest
      → 0 < length rest → fault ≡ faults.Trailing → IsFault blob fault

pub data IsFirstKeyFault (blob : List ℕ) (fault : KeyFault) : Type 0 where
  too_long : longest_blob < length blob → fault ≡ faults.TooLong → IsFirstKeyFault blob fault
  not_long : length blob ≤ longest_blob → IsFault blob fault → IsFirstKeyFault blob fault
