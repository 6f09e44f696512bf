-- The names that most proofs of this crate cite, passed on from one place. Declares nothing.
pub use Rattle.std.proofs.Common.{[], ⊎_elim, ◌%◌, ◌*◌, ◌++◌, ◌+◌, ◌-◌, ◌/◌, ◌<◌, ◌^◌, ◌↔◌, ◌∙◌}
pub use Rattle.std.proofs.Common.{◌∷◌, ◌≡◌, ◌≤◌, ◌⊎◌, add-zero, All, ap, append-nil, append_assoc}
pub use Rattle.std.proofs.Common.{arith, bit_and, bit_or, Bool, Contains, drop, drop-drop}
pub use Rattle.std.proofs.Common.{drop-set-lt, drop_at, eqb-true, Err, false, flat_map, get_or}
pub use Rattle.std.proofs.Common.{get_or-append-add, get_or-drop, get_or-set_other, get_or-set_same}
pub use Rattle.std.proofs.Common.{get_or-take, IfSome, inl, inr, insert, is_ok, IsTrue, le-leb}
pub use Rattle.std.proofs.Common.{length, length-append, length-drop, length-set, length-take}
pub use Rattle.std.proofs.Common.{length-take-le, List, max, min, None, Ok, OnErr, OnOk, Option}
pub use Rattle.std.proofs.Common.{option_to_list, pow_mono, pow_pos, refl, Result, set, Some}
pub use Rattle.std.proofs.Common.{subst, suc, sym, take, take-append-drop, take-take}
pub use Rattle.std.proofs.Common.{take_all, take_at, true, w64, zero, ℕ}
pub use Rattle.serial_set.proofs.LeastLists.{runs_first, runs_least}
pub use Rattle.serial_set.proofs.RisingLists.{names_append, names_at, names_left}
pub use Rattle.serial_set.proofs.RisingLists.{names_right, runs_front}
pub use Rattle.serial_set.proofs.RisingLists.{runs_middle, runs_reach}
pub use Rattle.serial_set.proofs.RunIteration.{runs_few, since_from}
pub use Rattle.serial_set.proofs.RunIteration.{since_runs, since_same, since_to, iteration_ends, iteration_continues}
pub use Rattle.serial_set.specs.Span.{AddsSpan, AreSerials, Covers, IsRuns, IsRunsOf, RunsFrom}
pub use Rattle.serial_set.specs.Span.{SpanCovers}
pub use Rattle.serial_set.specs.Iteration.{IsPiece, left, piece_of, since, steps}
pub use Rattle.serial_set.specs.declared.span.Span.{Span}
pub use Rattle.span_sets.specs.Chunk.{bits_of, ChunksFrom, hi_by, hi_of, is_span, lo_by, lo_of}
pub use Rattle.span_sets.specs.Chunk.{members_by, members_in, members_of, runs_of, window_of}
pub use Rattle.span_sets.specs.Chunks.{Keeps, Replaces}
pub use Rattle.span_sets.specs.Few.{few_of}
pub use Rattle.span_sets.specs.Lawful.{chunks_rise, in_stretch, next_bit, runs_of_chunks}
pub use Rattle.span_sets.specs.Lawful.{singles_to, stretch, this_bit}
pub use Rattle.span_sets.specs.Members.{GoesOn, IsFirst, IsFirstBit, Reads, Taken}
pub use Rattle.span_sets.specs.Pages.{chunks_in, chunks_of, IsSplit}
pub use Rattle.span_sets.specs.Positions.{CutTo, end_of, IsChunkFrom, IsListFrom, Widened}
pub use Rattle.span_sets.specs.Positions.{BlockWidened}
pub use Rattle.span_sets.specs.Replacement.{Has, hi_or, IsReplacement, lo_or}
pub use Rattle.span_sets.specs.Sides.{IsUpperSide, IsLowerSide}
pub use Rattle.span_sets.specs.SpanPages.{chunks_held}
pub use Rattle.span_sets.specs.Tight.{Apart, AreTight, IsFull, IsTight, KeepsTight}
pub use Rattle.span_sets.specs.Blocks.{BitCovers, single_by}
unfoldable pub use Rattle.span_sets.specs.Blocks.{singles}
pub use Rattle.span_sets.specs.declared.chunk.Chunk.{Chunk}
pub use Rattle.std.proofs.Math.Logic.{⊎_map, ⊎_swap}
pub use Rattle.std.proofs.lemmas.Bool.{cases_eq, cases_lt, false≢true, lt-leb}
pub use Rattle.std.proofs.lemmas.Bool.Decides.{eqb_tells, leb_tells}
pub use Rattle.std.proofs.lemmas.List.{drop-set, drop_all, drop_more, get_or_append_left}
pub use Rattle.std.proofs.lemmas.List.{get_or_default, set_split, take_more, take_more_set}
pub use Rattle.std.proofs.lemmas.List.{take_rest}
pub use Rattle.std.proofs.lemmas.List.Elements.{All-append, All-cons, All-drop, All-head, All-nil}
pub use Rattle.std.proofs.lemmas.List.Elements.{All-tail, All-take, All-weaker}
pub use Rattle.std.proofs.lemmas.List.Elements.{Contains-append_right}
pub use Rattle.std.proofs.lemmas.Nat.{and_le_l, le_or_l, one_shl, or_lt}
pub use Rattle.std.proofs.lemmas.Nat.Bits.{bit_at-lt, bit_at-trailing_ones, bit_at-trailing_zeros}
pub use Rattle.std.proofs.lemmas.Nat.Bits.{bit_at-zero, bit_at_and, bit_at_mask_above}
pub use Rattle.std.proofs.lemmas.Nat.Bits.{bit_at_mask_below, bit_at_mask_inside, bit_at_not}
pub use Rattle.std.proofs.lemmas.Nat.Bits.{bit_at_ones, bit_at_or, ones_shr}
pub use Rattle.std.specs.Int.{bit_at, bit_not, trailing_ones, trailing_zeros}
pub use Rattle.std.specs.List.Sorted.{IsNonDecreasingBy}
