-- Items: entries of bytes, which are keys, hashes of keys, or key IDs (PROTOCOL.krl).
use Rattle.std.specs.Prelude.{◌≡◌, ℕ, List, length}
use Rattle.krl_types.specs.Entry.{Entry, IdEntry, KeyEntry, Sha1Entry, Sha256Entry}
use Rattle.krl_types.specs.declared.item_kind.ItemKind.{ItemKind}
use Rattle.krl_types.specs.declared.item_kind.ItemKind.TheVariants as kinds

-- the size in bytes of an item whose length field contains `size`
abbrev pub item_size : ItemKind → ℕ → ℕ
item_size kinds.Key size = size
item_size kinds.Sha1 size = 20
item_size kinds.Sha256 size = 32
item_size kinds.Id size = size

-- the bytes have the size of an item of this kind
abbrev pub IsItem : ItemKind → List ℕ → Type 0
IsItem kind item = length item ≡ item_size kind (length item)

-- the entry of an item, under the authority in force
abbrev pub item_entry : ItemKind → (authority item : List ℕ) → Entry
item_entry kinds.Key authority item = KeyEntry item
item_entry kinds.Sha1 authority item = Sha1Entry item
item_entry kinds.Sha256 authority item = Sha256Entry item
item_entry kinds.Id authority item = IdEntry authority item
