-- The names that most proofs of this crate cite, passed on from one place. Declares nothing.
pub use Rattle.std.proofs.Common.{[], ◌++◌, ◌+◌, ◌-◌, ◌<◌, ◌∙◌, ◌∷◌, ◌≡◌, ◌≤◌, ◌⊎◌, add-zero, All}
pub use Rattle.std.proofs.Common.{ap, arith, drop, drop-drop, get_or, get_or-drop, get_or-take}
pub use Rattle.std.proofs.Common.{inl, inr, length, length-drop, length-take, List, max, min}
pub use Rattle.std.proofs.Common.{refl, sub-one, subst, sym, take, take-append-drop, take_all}
pub use Rattle.std.proofs.Common.{vec_capacity, vec_len, ℕ}
pub use Rattle.std.proofs.lemmas.Bool.{cases_lt}
pub use Rattle.std.proofs.lemmas.List.{drop_more, get_or_default}
pub use Rattle.std.proofs.lemmas.List.Elements.{All-drop, All-head, All-nil, All-tail, All-take}
pub use Rattle.std.proofs.lemmas.List.Elements.{All-weaker}
pub use Rattle.serial_set.proofs.RisingLists.{names_append, names_from, names_left, names_right}
pub use Rattle.serial_set.proofs.RisingLists.{runs_apart, runs_front, runs_join, runs_middle}
pub use Rattle.serial_set.proofs.RisingLists.{RunsFrom-weaker}
pub use Rattle.serial_set.specs.Span.{AddsSpan, AreSerials, Covers, IsRuns, RunsFrom, SpanCovers}
pub use Rattle.serial_set.specs.declared.span.Span.{Span}
