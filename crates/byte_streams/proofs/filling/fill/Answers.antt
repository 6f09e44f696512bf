-- The byte ahead is first in the slice, and the rest came from the reader.
use Rattle.std.proofs.Common.{◌<◌, length, rules, arith, length-set, slice_set}
use Rattle.byte_streams.proofs.Pulling.{Fills-ahead, take-set_first}
use Rattle.byte_streams.proofs.filling.fill.Goals as goal

pub returns-then-not-is_empty-clause-fills : goal.returns-then-not-is_empty-clause-fills
returns-then-not-is_empty-clause-fills g c =
    let some : 0 < length c.args.into.now = search rules in
    let size = length-set c.args.into.now 0 c.in-Some.byte in
    rw c.in-Some.is (Fills-ahead _ c.in-Some.byte _ _ _ (slice_set c.args.into.now 0 c.in-Some.byte) c.fill_from.new.into (omega arith) (take-set_first c.args.into.now c.in-Some.byte some) (search rules) c.fill_from.ensures)
