use Rattle.krl_plan.proofs.Common.{◌*◌, ◌++◌, ◌+◌, ◌≡◌, Above, bitmap_of, first_of}
use Rattle.krl_plan.proofs.bitmap.put_bits.Given as goal

abbrev pub invariant-loop-index : goal.invariant-loop-index
invariant-loop-index l = record {
  bytes : l.out.items ++ bitmap_of l.runs (first_of l.runs) l.index ≡ l.initial.out.items ++ bitmap_of l.runs (first_of l.runs) l.size;
  above : Above l.runs l.count (first_of l.runs + 8 * l.index);
}
