-- The names that most proofs of this crate cite, passed on from one place. Declares nothing.
pub use Rattle.std.proofs.Common.{[], ◌%◌, ◌&&◌, ◌*◌, ◌++◌, ◌+◌, ◌-◌, ◌/◌, ◌<◌, ◌^◌, ◌||◌, ◌↔◌, ◌∙◌}
pub use Rattle.std.proofs.Common.{◌∷◌, ◌≡◌, ◌≤◌, ◌⊎◌, add-one, All, ap, append-nil, append_assoc}
pub use Rattle.std.proofs.Common.{arith, Bool, cond, Contains, drop, drop-drop, drop_at, false}
pub use Rattle.std.proofs.Common.{flat_map, get_or, get_or-drop, get_or-set_other, get_or-set_same}
pub use Rattle.std.proofs.Common.{get_or-take, inl, inr, IsTrue, le-leb, leb, length, length-append}
pub use Rattle.std.proofs.Common.{length-drop, length-set, length-take, length-take-le, List}
pub use Rattle.std.proofs.Common.{mul_assoc, mul_comm, Option, refl, rules, set, slice_index, Some}
pub use Rattle.std.proofs.Common.{subst, suc, sym, take, take-append-drop, take_all, take_at, true}
pub use Rattle.std.proofs.Common.{zero, ℕ}
pub use Rattle.krl_plan.specs.Bitmaps.{bitmap_candidate, HasBitmaps, IsBitmap, IsBitmapOf, last_of}
pub use Rattle.krl_plan.specs.Copies.{BeginBatches, Copies}
pub use Rattle.krl_plan.specs.MonotonicQueue.{AnswersFor, AreOrdered, Forgets, IsFilled, IsFirstOf}
pub use Rattle.krl_plan.specs.MonotonicQueue.{IsLeastOf, Pushes}
pub use Rattle.krl_plan.specs.Plan.{Allows, Before, bytes_of, cost, end_of, IsCheapest, IsGroup}
pub use Rattle.krl_plan.specs.Plan.{IsLeastPlan, IsPlan, IsSmall, Prefers, reach, serial_count}
pub use Rattle.krl_plan.specs.Search.{cell_with, IsBest, IsBestOf, IsCell, IsFirst, IsLeastCost}
pub use Rattle.krl_plan.specs.Search.{rest_cost, Wins}
pub use Rattle.krl_plan.specs.Table.{AreChoices, IsChoice, IsKnown, Knows}
pub use Rattle.krl_plan.specs.Written.{Above, bitmap_of, bitmap_size, bits_of, content_of, first_of}
pub use Rattle.krl_plan.specs.Written.{group_text, plan_text, serials_from, serials_of}
pub use Rattle.krl_plan.specs.declared.cell.Cell.{Cell}
pub use Rattle.krl_plan.specs.declared.group.Group.{Group}
pub use Rattle.krl_plan.specs.declared.group.Sort.{Sort}
pub use Rattle.krl_plan.specs.declared.group.Sort.TheVariants.{Bitmap, Range, Serials}
pub use Rattle.krl_plan.specs.declared.monotonic_queue.Candidate.{Candidate}
pub use Rattle.krl_plan.specs.declared.monotonic_queue.MonotonicQueue.{MonotonicQueue}
pub use Rattle.serial_set.proofs.RisingLists.{covers_append, has_names, runs_at, RunsFrom-weaker}
pub use Rattle.serial_set.proofs.RunIteration.{since_same, iteration_ends, iteration_continues}
pub use Rattle.serial_set.specs.Span.{AreSerials, Covers, has, IsRuns, RunsFrom}
pub use Rattle.serial_set.specs.Iteration.{IsPiece, left, next_of, since, steps}
pub use Rattle.serial_set.specs.declared.span.Span.{Span}
pub use Rattle.ssh_wire.proofs.Fields.{length-number, length-numbers, length-string}
pub use Rattle.ssh_wire.specs.Wire.{number}
unfoldable pub use Rattle.ssh_wire.specs.Wire.{number_of, string}
pub use Rattle.std.proofs.lemmas.Bool.{cases_eq, cases_lt, false_from_ne_true, lt-leb}
pub use Rattle.std.proofs.lemmas.Grind.{common_steps, flat_map-append}
pub use Rattle.std.proofs.lemmas.List.{drop-append-le, drop_all, drop_more, get_or_append_left}
pub use Rattle.std.proofs.lemmas.List.{get_or_default, get_or_push, length_push, take-append-le}
pub use Rattle.std.proofs.lemmas.List.{take_more}
pub use Rattle.std.proofs.lemmas.List.Elements.{All-cons, All-contains, All-nil, All-tail}
pub use Rattle.std.proofs.lemmas.List.Elements.{Contains-append_left, Contains-get_or}
pub use Rattle.std.proofs.lemmas.List.Elements.{Contains-push, Contains-push_cases}
