-- The first bytes of the SHA-256 are the number.
use Rattle.text_index.specs.NameIndex.{item_key}
use Rattle.text_index.proofs.name_index.item_key.Goals as goal

pub returns : goal.returns
unfolding item_key
returns c = rw c.digest-print.ensures at c.from_be_bytes.ensures
