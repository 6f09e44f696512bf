use Rattle.krl_core.proofs.Common.{◌≡◌, ap, arith, InStep, length, on_ok_weaker, Place, subst}
use Rattle.krl_core.proofs.Bits.{good_bits, stores_bits}
use Rattle.krl_core.proofs.QuietPlaces.{is_quiet, stores_nothing}
use Rattle.krl_core.proofs.StoredEntries.{grows_more, grows_one}
use Rattle.krl_core.proofs.field_store.FieldStore.store_field.Goals as goal

pub returns-in-Content-Comment-default-default-default-clause-grows : goal.returns-in-Content-Comment-default-default-default-clause-grows
returns-in-Content-Comment-default-default-default-clause-grows g c = c.set_comment.ensures.grows (length c.args.field.now)

pub returns-in-Serial-clause-grows : goal.returns-in-Serial-clause-grows
returns-in-Serial-clause-grows g c =
    let size : length c.args.field.now ≡ 8 = rw c.in-Serial.is at c.requires.passes.whole in
    grows_more c.args.self.now c.add_serial.new.self 1 (length c.args.field.now) (omega (arith, size))
    (grows_one c.args.self.now c.add_serial.new.self 1 c.add_serial.ensures.held (omega arith) c.add_serial.ensures.stored)

pub returns-in-RangeMax-clause-grows : goal.returns-in-RangeMax-clause-grows
returns-in-RangeMax-clause-grows g c =
    let size : length c.args.field.now ≡ 8 = rw c.in-RangeMax.is at c.requires.passes.whole in
    grows_more c.args.self.now c.add_range.new.self 1 (length c.args.field.now) (omega (arith, size)) c.add_range.ensures.grows

pub add_bits-requires : goal.add_bits-requires
add_bits-requires g c =
    let b = c.in-Byte in
    let step = subst (λ (p : Place). InStep p c.args.self.now.bitmap) b.is c.requires.in_step in
    let judged = rw (b.is, ← c.byte_of.ensures) at c.requires.passes.judged in
    record {
      bytes_left = omega (arith, step.0, ap (λ p. p.bytes_left) step.1);
      good = good_bits c.args.self.now.bitmap b.offset b.size b.room_before b.room_after c.byte_of.result c.args.next (omega arith) step.1 judged;
    }

pub returns-in-Byte-clause-stores : goal.returns-in-Byte-clause-stores
returns-in-Byte-clause-stores g c =
    let b = c.in-Byte in
    let step = subst (λ (p : Place). InStep p c.args.self.now.bitmap) b.is c.requires.in_step in
    let judged = rw (b.is, ← c.byte_of.ensures) at c.requires.passes.judged in
    rw b.is (on_ok_weaker c.add_bits.result
    (stores_bits c.args.self.now c.add_bits.new.self b.offset b.size b.room_before b.room_after c.byte_of.result c.args.field.now c.args.next
    step c.byte_of.ensures judged) c.add_bits.ensures.stores)

pub returns-in-SectionLength-clause-stores : goal.returns-in-SectionLength-clause-stores
returns-in-SectionLength-clause-stores g c =
    stores_nothing c.args.place c.args.next c.args.field.now c.args.self.now (is_quiet c.args.place c.in-SectionLength.is) c.requires.passes.judged c.requires.in_step
