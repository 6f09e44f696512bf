-- The key ID is added under the current authority.
use Rattle.std.proofs.Common.{sym}
use Rattle.text_entries.proofs.Said.{id_added}
use Rattle.text_entries.proofs.line.add_id_hex.Goals as goal

pub returns : goal.returns
returns g c =
    let whole = sym (rw c.as_slice.ensures at c.if-has_zero.ensures) in
    let means = rw c.as_slice-2.ensures at c.in_ok-add_id.ensures.means in
    rw c.in-Some.ensures (id_added _ c.in-Some.authority.now c.in_ok-id.id _ _ c.in_ok-id.ensures whole means c.in_ok-add_id.ensures.held)
