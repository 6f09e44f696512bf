-- The entry is added, and is no key ID with a zero byte.
use Rattle.std.proofs.Common.{sym}
use Rattle.text_entries.proofs.Said.{whole_added}
use Rattle.text_entries.proofs.line.add_asked.Goals as goal

pub returns : goal.returns
returns g c =
    whole_added _ _ _ (sym c.if-has_zero_id.ensures) c.in_ok-add_subject.ensures.means c.in_ok-add_subject.ensures.held
