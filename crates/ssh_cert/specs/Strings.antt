-- Strings that fill bytes, one after another (RFC 4251 section 5).
use Rattle.std.specs.Prelude.{◌≡◌, ℕ, zero, suc, List, [], ◌∷◌, length, Option, Some, None, Result}
use Rattle.std.specs.Prelude.{Ok, Err, unwrap_or}
use Rattle.std.specs.Option.{option_map}
use Rattle.ssh_wire.specs.Reading.{string_at}
use Rattle.ssh_wire.specs.declared.fault.WireFault.{WireFault}

-- a string, followed by the others, which are in the bytes after it
abbrev pub string_before : Result (List ℕ × List ℕ) WireFault
    → (List ℕ → Option (List (List ℕ))) → Option (List (List ℕ))
string_before (Err fault) others = None
string_before (Ok (first, rest)) others = option_map (λ list. first ∷ list) (others rest)

-- at most `most` strings, up to the end of the bytes
unfoldable pub strings_within : ℕ → List ℕ → Option (List (List ℕ))
strings_within most [] = Some []
strings_within zero (byte ∷ bytes) = None
strings_within (suc most) (byte ∷ bytes) =
    string_before (string_at (byte ∷ bytes)) (strings_within most)

-- the strings that fill the bytes, if some do; there are at most as many as bytes
unfoldable pub strings_of : List ℕ → Option (List (List ℕ))
strings_of bytes = strings_within (length bytes) bytes

abbrev pub strings_in : List ℕ → List (List ℕ)
strings_in bytes = unwrap_or (strings_of bytes) []

-- Strings fill the bytes.
abbrev pub AreStrings : List ℕ → Type 0
AreStrings bytes = strings_of bytes ≡ Some (strings_in bytes)
