-- The key is added.
use Rattle.krl_types.specs.Entry.{KeyEntry}
use Rattle.text_entries.proofs.Said.{bytes_added}
use Rattle.text_entries.proofs.line.add_key_blob.Goals as goal

pub returns : goal.returns
returns g c =
    let means = rw c.as_slice.ensures at c.in_ok-add_key.ensures.means in
    bytes_added _ c.in_ok-blob.blob KeyEntry _ _ c.in_ok-blob.ensures means c.in_ok-add_key.ensures.held
