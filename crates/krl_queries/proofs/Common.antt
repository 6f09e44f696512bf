-- The names that most proofs of this crate cite, passed on from one place. Declares nothing.
pub use Rattle.std.proofs.Common.{[], ⊎_elim, ◌%◌, ◌*◌, ◌++◌, ◌+◌, ◌-◌, ◌<◌, ◌↔◌, ◌∙◌, ◌∷◌, ◌≡◌}
pub use Rattle.std.proofs.Common.{◌≤◌, ◌⊎◌, All, ap, append-nil, append_assoc, ap₂, arith, Bool}
pub use Rattle.std.proofs.Common.{Contains, drop, eqb, Err, false, flat_map, get_or, inl, inr}
pub use Rattle.std.proofs.Common.{IsTrue, length, List, map, map-id, max, mul-le-mul_right, None}
pub use Rattle.std.proofs.Common.{Ok, OnErr, OnOk, Option, refl, Result, rules, Some, subst, subst₂, suc}
pub use Rattle.std.proofs.Common.{sum_by, sym, take, take_all, zero, ℕ}
pub use Rattle.krl_entries.specs.Canonical.{entries_in}
pub use Rattle.krl_entries.specs.Changes.{MeansMore, Puts, run_entries}
pub use Rattle.krl_types.specs.Entry.{BitmapEntry, Entry, IdEntry, KeyEntry, RangeEntry}
pub use Rattle.krl_types.specs.Entry.{SerialsEntry, Sha1Entry, Sha256Entry}
pub use Rattle.krl_types.specs.Naming.{EntryNames, IdOf, KeyOf, Name, SerialOf, Sha1Of, Sha256Of}
pub use Rattle.krl_types.specs.Naming.{SomeNames}
pub use Rattle.krl_queries.specs.Questions.{Asked, asked_in, Asks, AsksMore}
pub use Rattle.krl_queries.specs.Questions.{HasCert, HashesOf, HasUnder, IsFirst, IsSmall}
pub use Rattle.krl_queries.specs.Questions.{serials_in, span_size}
pub use Rattle.krl_entries.specs.Reasons.{any_reason, has_reason, held_reasons, IsReason}
pub use Rattle.krl_entries.specs.Reasons.{reasons_of}
unfoldable pub use Rattle.krl_entries.specs.Reasons.{is_revoked, revokes}
pub use Rattle.krl_entries.specs.Revocations.{held, HoldsId, HoldsName, HoldsSerial, IsOrderlySection}
pub use Rattle.krl_entries.specs.Revocations.{IsNamed, IsOrderly, IsStoredAtMost, Revocations}
pub use Rattle.krl_entries.specs.Revocations.{Section, section_size, size_of, SomeSection, stored}
pub use Rattle.krl_entries.specs.Rising.{bytes_cmp, Rises, RisesBy}
pub use Rattle.krl_entries.specs.Scope.{BeginsRun, HoldsOnlyTopics, InScope, IsTopic, MeansInScope}
pub use Rattle.krl_entries.specs.Scope.{MeansMoreInScope, NoneHolds, Scope, serial_at}
pub use Rattle.serial_set.proofs.RisingLists.{names_from}
pub use Rattle.serial_set.specs.Span.{Covers, IsRuns, RunsFrom}
pub use Rattle.serial_set.specs.declared.span.Span.{Span}
pub use Rattle.sha1.specs.Sha1.{sha1}
pub use Rattle.sha2.specs.Sha256.{sha256}
unfoldable pub use Rattle.ssh_wire.specs.Wire.{number_of}
pub use Rattle.std.proofs.Math.Logic.{⊎_map}
pub use Rattle.std.proofs.lemmas.Bool.{cases_lt, false≢true}
pub use Rattle.std.proofs.lemmas.List.{length-map}
pub use Rattle.std.proofs.lemmas.List.Elements.{All-head, All-tail, All-weaker}
pub use Rattle.std.proofs.lemmas.List.Elements.{Contains-append_cases, Contains-get_or}
pub use Rattle.std.proofs.lemmas.List.Sums.{sum_by-append, sum_by-cons, sum_by-le}
pub use Rattle.std.proofs.lemmas.Result.{on_ok_weaker}
pub use Rattle.std.specs.BTreeMap.{is_at}
pub use Rattle.std.specs.List.{list_any, range_with_len}
pub use Rattle.std.specs.declared.alloc.AllocError.{AllocError}
