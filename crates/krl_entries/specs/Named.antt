-- The names that code asks for, and those that items have, as the names in entries.
use Rattle.std.specs.Prelude.{ℕ, List}
use Rattle.sha1.specs.Sha1.{sha1}
use Rattle.sha2.specs.Sha256.{sha256}
use Rattle.krl_types.specs.Naming.{IdOf, KeyOf, Name, SerialOf, Sha1Of, Sha256Of}
use Rattle.krl_types.specs.declared.item_kind.ItemKind.{ItemKind}
use Rattle.krl_types.specs.declared.item_kind.ItemKind.TheVariants as kinds
use Rattle.krl_entries.specs.declared.name.Name.{Name as Asked}
use Rattle.krl_entries.specs.declared.name.Name.TheVariants as asked

abbrev pub named : Asked → Name
named (asked.Serial authority serial) = SerialOf authority.now serial
named (asked.Id authority text) = IdOf authority.now text.now
named (asked.Key blob) = KeyOf blob.now
named (asked.Sha1 blob) = Sha1Of (sha1 blob.now)
named (asked.Sha256 blob) = Sha256Of (sha256 blob.now)

-- the name that an item has
abbrev pub item_name : ItemKind → (authority item : List ℕ) → Name
item_name kinds.Id authority id = IdOf authority id
item_name kinds.Key authority blob = KeyOf blob
item_name kinds.Sha1 authority hash = Sha1Of hash
item_name kinds.Sha256 authority hash = Sha256Of hash
