-- The names that most proofs of this crate cite, passed on from one place. Declares nothing.
pub use Rattle.krl_core.specs.FieldStore.{Adds, AddsEntries, ChangesOnlyEntries, Closes, FieldStore, Gains, GrowsAtMost, InStep}
pub use Rattle.krl_core.specs.FieldStore.{Skips, StoresAtMost, StoresBits, StoresEntries, StoresField, StoresNoMore, held_with_open, open_run}
pub use Rattle.krl_core.specs.FieldStore.{stored_header, stored_header_after}
pub use Rattle.krl_core.specs.Reading.{Advances, Ends, EndsAfter, Follows, HasRead, HoldsAll, HoldsInScope, IsBounded}
pub use Rattle.krl_core.specs.Reading.{IsList, IsListAs, IsReached, IsWholeAs, IsWithinLimit, LeadsOn, LooksFor, Missed}
pub use Rattle.krl_core.specs.Reading.{OfHeader, ReadsMore, ReadsOneMore, Refused, Stops, Walk, at_its_end, cut, working}
pub use Rattle.std.proofs.Common.{All, Bool, Err, IfOk, IsSome, IsTrue, List, None}
pub use Rattle.std.proofs.Common.{Ok, OnErr, OnOk, Option, Result, Some, [], ap, append-nil}
pub use Rattle.std.proofs.Common.{append_assoc, arith, bytes_eq, cond, drop, drop-drop, eq-eqb, eqb}
pub use Rattle.std.proofs.Common.{false, flat_map, inl, inr, is_err, le-ltb, leb, length}
pub use Rattle.std.proofs.Common.{length-append, length-drop, length-take, length-take-le, lt-ltb, ltb, ltb-true, map}
pub use Rattle.std.proofs.Common.{nat_lt, ne_eqb, option_to_list, refl, reverse, rules, subst, suc}
pub use Rattle.std.proofs.Common.{sum_by, sym, take, take-add, take-append-drop, take_all, true, zero}
pub use Rattle.std.proofs.Common.{ℕ, ◌%◌, ◌*◌, ◌++◌, ◌+◌, ◌-◌, ◌/◌, ◌<◌}
pub use Rattle.std.proofs.Common.{◌^◌, ◌↔◌, ◌∙◌, ◌∷◌, ◌≡◌, ◌≤◌, ◌⊎◌}
pub use Rattle.std.specs.List.{AllByRecursion, concat}
pub use Rattle.std.specs.declared.alloc.AllocError.{AllocError}
pub use Rattle.krl_core.specs.Buffered.{AreBitsOutOfScope, HasStored, MaySkip, ReadsBuffered, ReadsSome, ReadsWhole, RunsOut}
pub use Rattle.krl_entries.specs.Scope.{AreOutOfScope, InScope, IsInScope, MeansInScope, MeansMoreInScope, Scope, all, serial_at}
pub use Rattle.serial_set.specs.BitRuns.{BitNames, BitRuns, Feeds, HasFault, ShowsFault, lowest}
pub use Rattle.krl_types.specs.Entry.{BitmapEntry, Entry, IdEntry, RangeEntry, SerialsEntry}
pub use Rattle.krl_types.specs.Naming.{EntryNames, Name, NamesSame, SerialOf, SomeNames}
pub use Rattle.krl_format.specs.Front.{HasRoom, IsFirstKrlFault, LeadsTo, Passes, Reported, State, ended, ends_early}
pub use Rattle.krl_format.specs.Front.{limit, no_room, refused, start, state_after, too_long}
pub use Rattle.krl_format.specs.declared.header.Header.{Header}
pub use Rattle.krl_entries.specs.Revocations.{HoldsSerial, IsOrderlySection, Means, Revocations, Section, SomeSection, held}
pub use Rattle.ssh_wire.specs.Wire.{IsBytes}
pub use Rattle.ssh_wire.proofs.Digits.{IsBytes-append, IsBytes-back, IsBytes-drop, IsBytes-front, IsBytes-nil, IsBytes-tail, IsBytes-take}
pub use Rattle.krl_types.proofs.SameNames.{IsSerials, one_more, same_append, same_between, same_from_one, same_is, same_none, same_refl}
pub use Rattle.krl_types.proofs.SameNames.{same_serial, same_serials, same_swap, same_then, same_zero, some_append}
pub use Rattle.krl_types.specs.declared.krl_fault.KrlFault.{KrlFault}
pub use Rattle.krl_format.specs.declared.place.Place.{Place}
pub use Rattle.byte_streams.specs.Pull.{Pull, Refuses, Takes, after_ahead, available, left_of}
pub use Rattle.krl_format.specs.Faults.{Says, failed_read, first, ran_out}
pub use Rattle.serial_set.specs.declared.span.Span.{Span}
pub use Rattle.krl_format.specs.Krl.{Spells}
pub use Rattle.krl_types.proofs.Elements.{all_append, contains_cases, contains_none}
pub use Rattle.krl_format.specs.Place.{authority_after, base_of, bits_judged, can_end, expected, header_after, highest_bit}
pub use Rattle.krl_format.specs.Place.{names, next_bits, passes_end}
pub use Rattle.krl_types.specs.Item.{IsItem, item_entry, item_size}
pub use Rattle.krl_format.specs.Section.{next_serial, next_subsection}
pub use Rattle.std.proofs.lemmas.Bool.{cases_Bool, false≢true, lt-leb}
pub use Rattle.std.proofs.lemmas.List.Folds.{concat-append}
pub use Rattle.krl_entries.specs.Canonical.{entries_in}
pub use Rattle.krl_format.specs.Entries.{entries_of}
pub use Rattle.std.proofs.lemmas.Result.{err_from_is_err_and, on_err_weaker, on_ok_weaker}
pub use Rattle.krl_entries.proofs.SkippedSerials.{first_byte, serial_within, take_fewer}
pub use Rattle.krl_types.proofs.Equivalences.{iff_both, iff_none, iff_or, iff_swap}
pub use Rattle.krl_format.specs.Memory.{MayLackMemory, NeedsMemory}
pub use Rattle.std.proofs.lemmas.List.{length-reverse, reverse-append, take_rest}
pub use Rattle.krl_entries.proofs.ScopedMeaning.{means_all_within, nothing_in_scope, nothing_within, same_within}
unfoldable pub use Rattle.ssh_wire.specs.Wire.{number_of}
pub use Rattle.ssh_wire.proofs.Fields.{number_of-one}
pub use Rattle.krl_entries.specs.Changes.{run_entries}
