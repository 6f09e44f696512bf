-- Reading a key from left to right, up to the first fault.
use Rattle.std.specs.Prelude.{◌≡◌, ℕ, ◌-◌, List, [], length, take, Result, Ok, Err, nat_lt, ◌==◌}
use Rattle.std.specs.Prelude.{if◌then◌else◌}
use Rattle.std.specs.Option.{ok_or}
use Rattle.ssh_wire.specs.Reading.{◌>>=◌, in_fault, string_at}
use Rattle.ssh_wire.specs.Rows.{table_at}
use Rattle.ssh_key.specs.declared.fault.KeyFault.{KeyFault}
use Rattle.ssh_key.specs.declared.fault.KeyFault.TheVariants as faults
use Rattle.ssh_key.specs.declared.kind.Kind.{Kind}
use Rattle.ssh_key.specs.Kind.{fields_of, bits_of, kind_named}
use Rattle.ssh_key.specs.Key.{PublicKey, blob_of, longest_blob}

-- the kind by the type name
unfoldable pub kind_at : List ℕ → Result (Kind × List ℕ) KeyFault
kind_at bytes = do
  name ← in_fault faults.Wire (string_at bytes)
  kind ← ok_or (kind_named name.0) faults.UnknownType
  Ok (kind, name.1)

-- the size in bits by the public fields, and the bytes after them
unfoldable pub bits_at : Kind → List ℕ → Result (ℕ × List ℕ) KeyFault
bits_at kind bytes = do
  values ← table_at faults.Wire (fields_of kind) [] bytes
  Ok (bits_of kind values.0, values.1)

-- the bytes before the rest
abbrev pub before_rest : List ℕ → List ℕ → List ℕ
before_rest bytes rest = take (length bytes - length rest) bytes

abbrev pub of_size : Kind → List ℕ → ℕ × List ℕ → PublicKey
of_size kind bytes (bits, rest) =
    record { kind = kind; fields = before_rest bytes rest; bits = bits }

-- unless its blob is too long
abbrev pub not_too_long : PublicKey → List ℕ → Result (PublicKey × List ℕ) KeyFault
not_too_long key rest =
    if nat_lt longest_blob (length (blob_of key)) then Err faults.TooLong else Ok (key, rest)

-- the key whose public fields are at the front, and the bytes after them
unfoldable pub public_at : Kind → List ℕ → Result (PublicKey × List ℕ) KeyFault
public_at kind bytes = do
  size ← bits_at kind bytes
  not_too_long (of_size kind bytes size) size.1

-- all of the bytes
unfoldable pub key_at : List ℕ → Result PublicKey KeyFault
key_at blob = if nat_lt longest_blob (length blob) then Err faults.TooLong else do
  kind ← kind_at blob
  key ← public_at kind.0 kind.1
  if length key.1 == 0 then Ok key.0 else Err faults.Trailing

-- Reading the key's blob gives the key.
abbrev pub IsRead : PublicKey → Type 0
IsRead key = key_at (blob_of key) ≡ Ok key
