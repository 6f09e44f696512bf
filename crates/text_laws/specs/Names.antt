-- Names of certificate authorities that lines of texts can give.
use Rattle.std.specs.Prelude.{◌≡◌, ℕ, true, List, All, Some, Ok}
use Rattle.ssh_key.specs.Key.{PublicKey}
use Rattle.ssh_key.specs.KeyReading.{key_at}
use Rattle.text_entries.specs.AuthorityNames.{NamedKeys, NameOfKey, is_name, key_named}

-- A line can give this name to these bytes, which are those of a plain key.
pub record CanBeNamed (name bytes : List ℕ) : Type 0 where
  pub named : is_name name ≡ true
  pub key : PublicKey
  pub read : key_at bytes ≡ Ok key

-- Lines can give these names to their keys, and no two keys have the same name.
pub record AreNames (names : NameOfKey) : Type 0 where
  pub each : (key name : List ℕ) → names key ≡ Some name → CanBeNamed name key
  pub one : (key other name : List ℕ) → names key ≡ Some name → names other ≡ Some name
      → key ≡ other

-- A line can give the name to the key, and it is the name of no other key.
pub record IsDeclared (names : NamedKeys) (entry : List ℕ × List ℕ) : Type 0 where
  pub can : CanBeNamed entry.0 entry.1
  pub one : key_named names entry.0 ≡ Some entry.1

-- Lines can have given these names.
abbrev pub AreDeclared : NamedKeys → Type 0
AreDeclared names = All (IsDeclared names) names
