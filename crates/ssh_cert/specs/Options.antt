-- The critical options and the extensions of a certificate (PROTOCOL.certkeys): pairs of a name and
-- data.
use Rattle.std.specs.Prelude.{◌≡◌, ℕ, List, [], ◌∷◌, Option, Some, None, unwrap_or}
use Rattle.std.specs.List.{flat_map}
use Rattle.std.specs.Option.{option_and_then, option_map}
use Rattle.ssh_wire.specs.Wire.{strings}
use Rattle.ssh_cert.specs.Strings.{strings_of}

-- the name of an option or an extension, and its data
pub record CertOption : Type 0 where
  pub name : List ℕ
  pub content : List ℕ

-- the names and the data, in order
abbrev pub parts_of : List CertOption → List (List ℕ)
parts_of options = flat_map (λ option. option.name ∷ option.content ∷ []) options

-- the strings of the names and of the data, one after another
abbrev pub options_text : List CertOption → List ℕ
options_text options = strings (parts_of options)

-- pairs of consecutive strings, if none is left over
abbrev pub pairs_of : List (List ℕ) → Option (List CertOption)
pairs_of [] = Some []
pairs_of (name ∷ []) = None
pairs_of (name ∷ content ∷ rest) =
    option_map (λ options. record { name = name; content = content } ∷ options) (pairs_of rest)

-- the options whose strings fill the bytes, if some do
abbrev pub options_of : List ℕ → Option (List CertOption)
options_of bytes = option_and_then pairs_of (strings_of bytes)

abbrev pub pairs_in : List (List ℕ) → List CertOption
pairs_in parts = unwrap_or (pairs_of parts) []

-- No string is left over.
abbrev pub ArePairs : List (List ℕ) → Type 0
ArePairs parts = parts ≡ parts_of (pairs_in parts)
