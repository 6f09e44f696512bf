-- An addition by one call, and how stores take it.
use Rattle.std.specs.Prelude.{◌≡◌, ℕ, ◌+◌, ◌⊎◌, List, ⊤}
use Rattle.krl_types.specs.Item.{IsItem}
use Rattle.krl_types.specs.declared.item_kind.ItemKind.TheVariants as kinds
use Rattle.krl_entries.specs.Changes.{IsOneChange, bytes_in}
use Rattle.krl_entries.specs.Revocations.{IsStoredAtMost, Revocations}
use Rattle.krl_entries.specs.declared.addition.Addition.{Addition}
use Rattle.krl_entries.specs.declared.addition.Addition.TheVariants.{Serials, Item}

-- one call can make the addition
abbrev pub IsOneAddition : Addition → Type 0
IsOneAddition (Serials near) = IsOneChange (Serials near)
IsOneAddition (Item kind item) = IsItem kind item.now

-- the addition is a key, which is under no authority
abbrev pub IsKey : Addition → Type 0
IsKey (Serials near) = ⊥
IsKey (Item kinds.Id id) = ⊥
IsKey (Item kinds.Key blob) = ⊤
IsKey (Item kinds.Sha1 hash) = ⊤
IsKey (Item kinds.Sha256 hash) = ⊤

-- The addition counts under another authority: that is its own, or it is a key.
abbrev pub CountsUnder : Addition → (authority other : List ℕ) → Type 0
CountsUnder addition authority other = IsKey addition ⊎ (other ≡ authority)

-- where there is room for an authority that the addition counts under, its bytes are stored
abbrev pub StoresMore : (authority : List ℕ) → Addition → (old new : Revocations) → Type 0
StoresMore authority addition old new =
    (other : List ℕ) → CountsUnder addition authority other
    → (n : ℕ) → IsStoredAtMost other old n → IsStoredAtMost other new (n + bytes_in addition)
