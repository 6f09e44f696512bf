use Rattle.span_sets.proofs.Common.{◌*◌, ◌↔◌, BitCovers, Covers, take, ℕ}
use Rattle.span_sets.proofs.block_bits.bits_of.Given as goal

abbrev pub invariant-loop-span : goal.invariant-loop-span
invariant-loop-span l = (s : ℕ) → BitCovers 64 (64 * l.window) l.bits s ↔ Covers (take l.span-index l.spans) s
