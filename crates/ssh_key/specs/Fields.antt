-- The size that a reader of public fields found.
use Rattle.std.specs.Prelude.{ℕ, ◌≤◌, List, [], length, Result, Ok}
use Rattle.ssh_wire.specs.Reading.{◌>>=◌}
use Rattle.ssh_wire.specs.Rows.{Row, table_at}
use Rattle.ssh_key.specs.declared.fault.KeyFault.{KeyFault}
use Rattle.ssh_key.specs.declared.fields.Size.{Size}
use Rattle.ssh_key.specs.declared.fields.Size.TheVariants.{Bits, Magnitude}
use Rattle.ssh_key.specs.declared.fault.KeyFault.TheVariants.{Wire}
use Rattle.ssh_key.specs.Kind.{bit_count}

abbrev pub bits_of_size : Size → ℕ
bits_of_size (Bits bits) = bits
bits_of_size (Magnitude bytes) = bit_count bytes.now

-- a magnitude is at most `limit` bytes long
abbrev pub IsWithin : Size → ℕ → Type 0
IsWithin (Bits bits) limit = Unit {0}
IsWithin (Magnitude bytes) limit = length bytes.now ≤ limit

-- the size of a key that has these fields and this many bits, and the bytes after them
abbrev pub sized_at : List (Row KeyFault) → ℕ → List ℕ → Result (ℕ × List ℕ) KeyFault
sized_at fields bits bytes = do
  values ← table_at Wire fields [] bytes
  Ok (bits, values.1)
