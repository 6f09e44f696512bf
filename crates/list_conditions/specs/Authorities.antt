-- The certificate authorities that entries name.
use Rattle.std.specs.Prelude.{◌≡◌, ◌↔◌, ◌⊎◌, ℕ, List, [], ◌∷◌, length}
use Rattle.krl_types.specs.Entry.{Entry}
use Rattle.krl_types.specs.Naming.{IdOf, SerialOf, SomeNames}
use Rattle.krl_entries.specs.Rising.{Rises}

-- Some entry names a serial number or a key ID under exactly this authority.
abbrev pub IsAuthority : List Entry → List ℕ → Type 0
IsAuthority entries authority =
    ((serial : ℕ) × SomeNames entries (SerialOf authority serial))
    ⊎ ((id : List ℕ) × SomeNames entries (IdOf authority id))

abbrev pub IsAmong : List (List ℕ) → List ℕ → Type 0
IsAmong [] authority = ⊥
IsAmong (first ∷ authorities) authority = (first ≡ authority) ⊎ IsAmong authorities authority

-- These authorities, each once, are so many. All authorities count as one.
pub record HasAuthorities (entries : List Entry) (count : ℕ) : Type 0 where
  pub authorities : List (List ℕ)
  pub each_once : Rises authorities
  pub named : (authority : List ℕ)
      → IsAmong authorities authority ↔ IsAuthority entries authority
  pub count_is : count ≡ length authorities
