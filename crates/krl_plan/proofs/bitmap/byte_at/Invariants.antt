use Rattle.krl_plan.proofs.Common.{◌+◌, ◌-◌, ◌≡◌, Above, bits_of}
use Rattle.krl_plan.proofs.bitmap.byte_at.Given as goal

abbrev pub invariant-loop-bit : goal.invariant-loop-bit
invariant-loop-bit l = record {
  bits : l.byte ≡ bits_of l.runs (l.base + l.bit) (8 - l.bit);
  above : Above l.runs l.count (l.base + l.bit);
}
