-- The names that most proofs of this crate cite, passed on from one place. Declares nothing.
pub use Rattle.std.proofs.Common.{[], ⊎_elim, ◌%◌, ◌&&◌, ◌*◌, ◌++◌, ◌+◌, ◌-◌, ◌/◌, ◌<◌, ◌^◌, ◌↔◌}
pub use Rattle.std.proofs.Common.{◌∙◌, ◌∷◌, ◌≡◌, ◌≤◌, ◌⊎◌, All, ap, append-nil, append_assoc, arith}
pub use Rattle.std.proofs.Common.{Bool, Decides, drop, get_or, IfSome, inl, inr, le-leb, leb}
pub use Rattle.std.proofs.Common.{leb-true, length, length-append, length-drop, length-take, List}
pub use Rattle.std.proofs.Common.{max, min, nat_le, None, Option, option_to_list, pow-suc, refl}
pub use Rattle.std.proofs.Common.{reverse, Some, SomeIff, subst, suc, sym, take, zero, ℕ}
pub use Rattle.serial_set.specs.BitRuns.{big_endian, BitNames, BitRuns, Feeds, FeedsAll, HasFault}
pub use Rattle.serial_set.specs.BitRuns.{IsInStep, IsInterval, lowest, PassesEnd, runs_after, start}
pub use Rattle.serial_set.specs.Finished.{finished_of}
pub use Rattle.serial_set.specs.Span.{AddsSpan, AreSerials, Covers, has, IsRuns, IsRunsOf, RunsFrom}
pub use Rattle.serial_set.specs.Span.{SpanCovers}
pub use Rattle.serial_set.specs.Iteration.{clipped, IsPiece, left, next_by, next_of, past, piece_of}
pub use Rattle.serial_set.specs.Iteration.{since, since_by, steps}
pub use Rattle.serial_set.specs.declared.span.Span.{Span}
pub use Rattle.std.proofs.lemmas.Bool.{cases_eq, cases_lt}
pub use Rattle.std.proofs.lemmas.Bool.Decides.{Decides-and, Decides-or, eqb_tells, leb_tells}
pub use Rattle.std.proofs.lemmas.List.{get_or-reverse, length-reverse, reverse-append, take_min}
pub use Rattle.std.proofs.lemmas.List.Elements.{All-cons, All-head, All-more, All-nil, All-tail}
pub use Rattle.std.proofs.lemmas.Nat.Bits.{bit_at-lt, bit_at-zero, bit_at_above, bit_at_cat_high}
pub use Rattle.std.proofs.lemmas.Nat.Bits.{bit_at_cat_low, shr_and_one}
pub use Rattle.std.specs.Int.{bit_at}
