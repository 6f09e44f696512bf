use Rattle.std.proofs.Common.{arith}
use Rattle.krl_core.proofs.OutOfScopeFields.{bits_buffered, serials_buffered}
use Rattle.krl_core.proofs.buffered.skip_out_of_scope.Goals as goal

pub returns-else-count-eq0 : goal.returns-else-count-eq0
returns-else-count-eq0 g c =
    let s = c.in-Serial in
    let e = c.serials_out_of_scope-count.ensures in
    serials_buffered c.args.bytes.now c.serials_out_of_scope-count.result c.args.place.now c.next_serial.result c.args.stored.now s.room_before s.room_after s.is c.next_serial.ensures e.within e.left e.whole c.if-count-eq0.false (λ i. omega (arith, c.type_inv.bytes i)) c.requires.in_step e.out_of_scope

pub returns-else-count-eq0-2 : goal.returns-else-count-eq0-2
returns-else-count-eq0-2 g c =
    let b = c.in-Byte in
    let e = c.skip-done.ensures in
    bits_buffered c.args.bytes.now c.bits_out_of_scope-count.result c.skip-done.result c.args.place.now c.next_bits.result c.args.stored.now c.skip-done.new.self b.offset b.size b.room_before b.room_after b.is c.next_bits.ensures
    (c.bits_out_of_scope-count.ensures (omega (arith, c.if-count-eq0-2.false))) c.if-count-eq0-2.false (λ i. omega (arith, c.type_inv.bytes i)) c.requires.in_step e.skips e.held e.stored
