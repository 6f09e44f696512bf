use Rattle.krl_core.proofs.Common.{arith, on_ok_weaker, refl}
use Rattle.serial_set.specs.Finished.{finished_of}
use Rattle.krl_core.proofs.Bits.{bits_go_on, bits_close, fed_grows}
use Rattle.krl_core.proofs.StoredEntries.{stored_same}
use Rattle.krl_core.proofs.field_store.FieldStore.add_bits.Goals as goal

pub returns-in_err-add_spans-clause-grows : goal.returns-in_err-add_spans-clause-grows
returns-in_err-add_spans-clause-grows g c =
    let new = c.add_spans.new.self in
    rw (← c.self.view_is) (fed_grows _ _ new new c.args.byte (finished_of c.take-finished.result) c.take-finished.ensures.fed refl (rw c.as_slice.ensures at c.add_spans.ensures.held) c.add_spans.ensures.stored
    (omega arith) (stored_same new new refl refl refl))

pub returns-else-last-clause-grows : goal.returns-else-last-clause-grows
returns-else-last-clause-grows g c =
    let new = c.add_spans.new.self in
    rw (← c.self.view_is) (fed_grows _ _ new new c.args.byte (finished_of c.take-finished.result) c.take-finished.ensures.fed refl (rw c.as_slice.ensures at c.add_spans.ensures.held) c.add_spans.ensures.stored
    (omega arith) (stored_same new new refl refl refl))

pub returns-then-last-clause-grows : goal.returns-then-last-clause-grows
returns-then-last-clause-grows g c =
    rw (← c.self.view_is) (fed_grows _ _ c.add_spans.new.self c.close.new.self c.args.byte (finished_of c.take-finished.result) c.take-finished.ensures.fed refl (rw c.as_slice.ensures at c.add_spans.ensures.held) c.add_spans.ensures.stored
    c.close.ensures.held c.close.ensures.stored)

pub returns-else-last-clause-stores : goal.returns-else-last-clause-stores
returns-else-last-clause-stores g c =
    rw (← c.self.view_is) (bits_go_on _ _ c.add_spans.new.self c.args.byte c.args.last (finished_of c.take-finished.result) c.if-last.false c.take-finished.ensures.fed
    refl refl refl refl (rw c.as_slice.ensures at c.in_ok-add_spans.ensures.adds))

pub returns-then-last-clause-stores : goal.returns-then-last-clause-stores
returns-then-last-clause-stores g c =
    rw (← c.self.view_is) (on_ok_weaker c.close.result (bits_close _ _ c.add_spans.new.self c.close.new.self c.args.byte c.args.last (finished_of c.take-finished.result) c.if-last.true c.take-finished.ensures.fed
    refl refl refl refl (rw c.as_slice.ensures at c.in_ok-add_spans.ensures.adds)) c.close.ensures.closes)
