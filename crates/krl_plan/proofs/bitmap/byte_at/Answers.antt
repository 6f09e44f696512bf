use Rattle.std.proofs.Common.{◌≡◌, ◌+◌, ◌-◌, ◌≤◌, Bool, true, false, cond, ℕ, refl, ap, ◌∙◌, arith}
use mir.Val.{bool_byte}
use Rattle.serial_set.specs.Span.{has}
use Rattle.krl_plan.proofs.BitmapBits.{Above-less, bits_more, byte_small}
use Rattle.krl_plan.proofs.bitmap.byte_at.Goals as goal

as_number : (b : Bool) → bool_byte b ≡ cond b 1 0
as_number true = refl
as_number false = refl

one_at_most : (b : Bool) → bool_byte b ≤ 1
one_at_most true = omega arith
one_at_most false = omega arith

pub overflow_mul-byte : goal.overflow_mul-byte
overflow_mul-byte c =
    let small = byte_small c.args.runs.now (c.args.base + c.loop-bit.bit) (8 - c.loop-bit.bit) (omega arith) in
    omega (arith, c.loop-bit.invariant.bits)

pub overflow_add-byte : goal.overflow_add-byte
overflow_add-byte c =
    let small = byte_small c.args.runs.now (c.args.base + c.loop-bit.bit) (8 - c.loop-bit.bit) (omega arith) in
    let one = one_at_most c.has_serial-set.result in
    omega (arith, c.loop-bit.invariant.bits, c.from-in-loop-bit.ensures)

pub loop-bit-preserved : goal.loop-bit-preserved
loop-bit-preserved c =
    let runs = c.args.runs.now in
    let bit = c.loop-bit.bit in
    let serial : c.from.result ≡ bit - 1 = c.from.ensures in
    let set : c.has_serial-set.result ≡ has runs (c.args.base + (bit - 1)) = c.has_serial-set.ensures.has ∙ ap (λ (n : ℕ). has runs (c.args.base + n)) serial in
    let one : bool_byte c.has_serial-set.result ≡ cond {A = ℕ} (has runs (c.args.base + (bit - 1))) 1 0 =
    as_number c.has_serial-set.result ∙ ap (λ (b : Bool). cond {A = ℕ} b 1 0) set in
    let so_far = c.loop-bit.invariant.bits in
    let last = c.from-in-loop-bit.ensures in
    let more = bits_more runs c.args.base bit (omega arith) (omega arith) in
    record {
      bits = omega arith;
      above = Above-less runs c.has_serial-set.new.count (c.args.base + c.from.result + 1) (c.args.base + (bit - 1)) (omega arith) c.has_serial-set.ensures.above;
    }
