-- The hash is added.
use Rattle.krl_types.specs.Entry.{Sha1Entry}
use Rattle.text_entries.proofs.Said.{bytes_added}
use Rattle.text_entries.proofs.line.add_sha1.Goals as goal

pub returns : goal.returns
returns g c =
    bytes_added _ c.in_ok-hash.hash Sha1Entry _ _ c.in_ok-hash.ensures c.in_ok-add_sha1.ensures.means c.in_ok-add_sha1.ensures.held
