-- The names of the key types.
use Rattle.std.specs.Prelude.{ℕ, Bool, List, ◌++◌, map}
use Rattle.std.specs.List.{list_any}
use Rattle.std.specs.Str.{bytes_eq}
use Rattle.ssh_key.specs.Kind.{certificate_name, kinds, type_name}

-- the types of plain keys
unfoldable pub plain_names : List (List ℕ)
plain_names = map type_name kinds

-- the types of certificates
unfoldable pub certificate_names : List (List ℕ)
certificate_names = map certificate_name kinds

unfoldable pub type_names : List (List ℕ)
type_names = plain_names ++ certificate_names

-- the word is one of them
unfoldable pub is_type_name : List ℕ → Bool
is_type_name word = list_any (λ name. bytes_eq name word) type_names
