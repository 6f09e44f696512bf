-- The names that most proofs of this crate cite, passed on from one place. Declares nothing.
pub use Rattle.krl_entries.specs.declared.addition.Addition.{Addition}
pub use Rattle.krl_entries.specs.Changes.{AddsTo, ChangesOne, HoldsMore, IsOneChange, MeansMore, Puts, TakesAddition, TakesId}
pub use Rattle.krl_entries.specs.Changes.{TakesSerials, added_entries, bytes_in, empty_section, run_entries}
pub use Rattle.krl_entries.specs.Gathered.{AddsUnder, Gathered, HasPlace, IsTaken, TakesOut, whole, with_section}
pub use Rattle.std.proofs.Common.{All, BTreeSet, Bool, Bor, Contains, Err, HoldsAt, IfOk}
pub use Rattle.std.proofs.Common.{IsSortedBy, IsTrue, List, MatchOption, MatchResult, None, Ok, OnErr}
pub use Rattle.std.proofs.Common.{OnOk, Option, Result, Some, [], ap, arith, bytes_eq}
pub use Rattle.std.proofs.Common.{cond, drop, false, flat_map, get_or, inl, inr, insert}
pub use Rattle.std.proofs.Common.{is_eq, is_lt, length, length-append, map, map-id, nat_le, nat_lt}
pub use Rattle.std.proofs.Common.{option_copied, refl, rules, subst, suc, sum_by, sym, take}
pub use Rattle.std.proofs.Common.{take-append-drop, take-take, vec_len, zero, ℕ, ⊎_elim, ◌&&◌, ◌*◌}
pub use Rattle.std.proofs.Common.{◌++◌, ◌+◌, ◌-◌, ◌<◌, ◌==◌, ◌||◌, ◌↔◌, ◌∙◌}
pub use Rattle.std.proofs.Common.{◌∷◌, ◌≡◌, ◌≤◌, ◌⊎◌}
pub use Rattle.std.proofs.lemmas.List.Elements.{All-cons, All-head, All-tail, Contains-append_cases}
pub use Rattle.krl_entries.specs.Rising.{AllAbove, AllBelow, Rises, RisesBy, bytes_cmp}
pub use Rattle.std.specs.List.{AllByRecursion, AllWithin, AllZip, list_any}
pub use Rattle.std.specs.declared.alloc.AllocError.{AllocError}
pub use Rattle.serial_set.specs.Span.{AreSerials, Covers, IsRuns, has}
pub use Rattle.krl_types.specs.Entry.{BitmapEntry, Entry, IdEntry, KeyEntry, RangeEntry, SerialsEntry, Sha1Entry, Sha256Entry}
pub use Rattle.krl_types.specs.Naming.{EntryNames, IdOf, KeyOf, Name, NamesSame, SerialOf, Sha1Of, Sha256Of}
pub use Rattle.krl_types.specs.Naming.{SomeNames}
pub use Rattle.std.specs.declared.cmp.Ordering.TheVariants.{Equal, Greater, Less}
pub use Rattle.krl_entries.specs.Ids.{GoesTo, ids_of}
pub use Rattle.krl_entries.specs.Revocations.{HoldsId, HoldsName, HoldsSerial, IsOrderlySection, IsNamed, IsOrderly, IsStoredAtMost, IsUnder}
pub use Rattle.krl_entries.specs.Revocations.{Means, Revocations, Section, SomeSection, held, nothing, revocations_of, section_size}
pub use Rattle.krl_entries.specs.Revocations.{section_with, size_of, stored}
pub use Rattle.krl_entries.specs.declared.addition.Addition.TheVariants.{Item, Serials}
pub use Rattle.std.proofs.lemmas.Result.{IfOk-weaker, on_ok_weaker}
pub use Rattle.krl_entries.specs.Scope.{InScope, MeansInScope, MeansMoreInScope, Scope, all, serial_at}
pub use Rattle.krl_entries.specs.Inserting.{Inserts, Stands}
pub use Rattle.std.specs.List.Sorted.{IsBinarySearchResult, IsSearchInRange}
pub use Rattle.std.specs.BTreeSet.{IsFromIterResult, contains, insert_key}
pub use Rattle.krl_entries.specs.Named.{named}
pub use Rattle.krl_entries.specs.Reasons.{IsReason, OfName, any_reason, bit_of, bits_in, every_reason, has_reason, held_reasons}
pub use Rattle.krl_entries.specs.Reasons.{name_asked, passes, position_of, reasons_of, with_bit}
unfoldable pub use Rattle.std.specs.List.Sorted.{IsStrictlySortedBy}
pub use Rattle.krl_entries.specs.Revoked.{KeyNamed}
pub use Rattle.std.specs.declared.cmp.Ordering.{Ordering}
pub use Rattle.serial_set.specs.declared.span.Span.{Span}
pub use Rattle.krl_entries.specs.AuthorityEntries.{apart_of, name_of, named_sections, section_of, sections_of}
pub use Rattle.std.specs.Int.{bit_at}
pub use Rattle.krl_entries.specs.Texts.{bytes_of, texts_of}
pub use Rattle.std.proofs.lemmas.Bool.{cases_lt, false≢true}
pub use Rattle.serial_set.proofs.RisingLists.{covers_append, has_names}
pub use Rattle.std.proofs.lemmas.List.{drop-take, map-append}
pub use Rattle.krl_entries.specs.Canonical.{entries_in, section_entries}
pub use Rattle.krl_entries.specs.Tested.{entry_names, holds_name, is_among, some_names}
pub use Rattle.std.proofs.lemmas.Map.Lookups.{exact_bytes}
pub use Rattle.std.specs.BTreeMap.{insert_entry, is_at}
unfoldable pub use Rattle.krl_entries.specs.Reasons.{is_revoked, reasons_by, revokes}
pub use Rattle.std.specs.Ordering.{match_ordering, ordering_reverse}
pub use Rattle.std.proofs.lemmas.Cmp.{nat_list_cmp_total, tied_itself}
unfoldable pub use Rattle.ssh_wire.specs.Wire.{number_of}
pub use Rattle.sha1.specs.Sha1.{sha1}
pub use Rattle.sha2.specs.Sha256.{sha256}
pub use Rattle.std.proofs.lemmas.List.Sums.{sum_by-append, sum_by-cons}
pub use Rattle.std.proofs.Math.Logic.{⊎_map}
