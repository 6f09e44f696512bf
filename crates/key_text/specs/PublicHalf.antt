-- The public key of a private container, which may be encrypted (OpenSSH's PROTOCOL.key).
use Rattle.std.specs.Prelude.{◌≡◌, ℕ, ◌==◌, List, drop, nat_eq, Result, Ok, Err, if◌then◌else◌}
use Rattle.std.specs.List.{starts_with}
use Rattle.ssh_wire.specs.Reading.{in_fault, number_at, string_at, ◌>>=◌}
use Rattle.key_text.specs.Armour.{armour_at}
use Rattle.key_text.specs.Container.{magic}
use Rattle.key_text.specs.ContainerReading.{decoded_at, some_body}
use Rattle.key_text.specs.declared.private_fault.PrivateFault.{PrivateFault}
use Rattle.key_text.specs.declared.private_fault.PrivateFault.TheVariants as faults

-- the string at the front of bytes
unfoldable pub first_string : List ℕ → Result (List ℕ) PrivateFault
first_string bytes = do
  read ← in_fault faults.Wire (string_at bytes)
  Ok read.0

-- After the names of the cipher and of the derivation, and its options, come the number of keys, 1,
-- and the blob of the public key. The bytes after the blob are not read.
unfoldable pub half_inside : List ℕ → Result (List ℕ) PrivateFault
half_inside bytes = do
  cipher ← in_fault faults.Wire (string_at bytes)
  derivation ← in_fault faults.Wire (string_at cipher.1)
  options ← in_fault faults.Wire (string_at derivation.1)
  count ← in_fault faults.Wire (number_at 4 options.1)
  if count.0 == 1 then first_string count.1 else Err faults.KeyCount

unfoldable pub half_bytes : List ℕ → Result (List ℕ) PrivateFault
half_bytes bytes =
    if starts_with nat_eq bytes magic then half_inside (drop 15 bytes) else Err faults.Magic

-- the blob of the public key of a container
unfoldable pub public_half_at : List ℕ → Result (List ℕ) PrivateFault
public_half_at text = do
  body ← some_body (armour_at text)
  bytes ← decoded_at body
  half_bytes bytes

-- A fault is the one that reading gives, or `NoMemory`.
abbrev pub ReportsHalf : {Y : Type 0} → PrivateFault → Result Y PrivateFault → Type 0
ReportsHalf faults.NoMemory read = Unit {0}
ReportsHalf fault read = read ≡ Err fault
