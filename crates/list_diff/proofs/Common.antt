-- The names that most proofs of this crate cite, passed on from one place. Declares nothing.
pub use Rattle.std.proofs.Common.{[], ◌++◌, ◌+◌, ◌-◌, ◌<◌, ◌∙◌, ◌∷◌, ◌≡◌, ◌≤◌, ◌⊎◌, ◌↔◌, All, ap}
pub use Rattle.std.proofs.Common.{arith, drop, Err, flat_map, get_or, inl, inr, length, List, map, max}
pub use Rattle.std.proofs.Common.{None, Ok, OnOk, Option, refl, Result, Some, subst, suc, sym, take}
pub use Rattle.std.proofs.Common.{zero, ℕ}
pub use Rattle.std.proofs.lemmas.Result.{on_ok_weaker}
pub use Rattle.std.proofs.lemmas.Bool.{cases_lt}
pub use Rattle.serial_set.specs.declared.span.Span.{Span}
pub use Rattle.serial_set.specs.Span.{AreSerials, Covers, IsRuns, RunsFrom}
pub use Rattle.krl_types.specs.Entry.{Entry, IdEntry, KeyEntry, RangeEntry, Sha1Entry, Sha256Entry}
pub use Rattle.krl_types.specs.Item.{IsItem, item_entry}
pub use Rattle.krl_types.specs.Naming.{EntryNames, IdOf, KeyOf, Name, NamesSame, SerialOf, Sha1Of}
pub use Rattle.krl_types.specs.Naming.{Sha256Of, SomeNames}
pub use Rattle.krl_types.specs.declared.item_kind.ItemKind.{ItemKind}
pub use Rattle.krl_types.proofs.Equivalences.{iff_none, iff_or}
pub use Rattle.krl_entries.specs.Canonical.{entries_in, section_entries}
pub use Rattle.krl_entries.specs.Changes.{MeansMore, run_entries}
pub use Rattle.krl_entries.specs.Named.{item_name}
pub use Rattle.krl_entries.specs.Revocations.{HoldsName, HoldsSerial, IsOrderly, Means}
pub use Rattle.krl_entries.specs.Revocations.{nothing, Revocations, Section, SomeSection}
pub use Rattle.krl_entries.specs.Rising.{AllAbove}
pub use Rattle.list_diff.specs.Ahead.{AllCovered, Follows, IsFirst, IsFirstFrom, IsWindow}
pub use Rattle.list_diff.specs.Ahead.{NoneBetween, spans_in}
pub use Rattle.list_diff.specs.Gap.{IsGap, IsUpTo, LostBetween, LostFrom}
pub use Rattle.list_diff.specs.Lost.{Gains, Lost, LostSerial, SerialWith}
pub use Rattle.list_diff.specs.Without.{HoldsWithout, MeansWithout, Without}
