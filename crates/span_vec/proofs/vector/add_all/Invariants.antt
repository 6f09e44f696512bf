use Rattle.span_vec.proofs.Common.{◌+◌, ◌≤◌, AreSerials, length, take, vec_capacity, vec_len}
use Rattle.serial_set.specs.Near.{AddsSpans}
use Rattle.span_vec.proofs.vector.add_all.Given as goal

abbrev pub invariant-loop-span : goal.invariant-loop-span
invariant-loop-span l = record {
  adds : AddsSpans l.fn.items.items (take l.span-index l.spans) l.items.items;
  serials : AreSerials l.items.items;
  room : vec_len l.items + length l.spans ≤ vec_capacity l.items + l.span-index;
}
