-- The names that most proofs of this crate cite, passed on from one place. Declares nothing.
pub use Rattle.std.specs.List.{AllByRecursion, concat}
pub use Rattle.krl_types.proofs.SameNames.{AreSerials, mapped_name, same_append, same_is, same_nothing, same_refl, same_serials, same_then}
pub use Rattle.ssh_wire.specs.Rows.{BeginsWithPart, BeginsWithTable, Number, Row, Text, passes, row}
pub use Rattle.krl_format.specs.Krl.{Bitmap, Certificates, Extension, Ids, IsNotNegative, IsSignature, Keys, Range}
pub use Rattle.krl_format.specs.Krl.{Serials, Sha1s, Sha256s, Signature, SignaturesLast, SpelledSection, Spells, SpellsBitmap}
pub use Rattle.krl_format.specs.Krl.{SpellsCertificates, SpellsContent, SpellsEach, SpellsSection, SpellsSubsection, Subsection, SubsectionContent, SubsectionExtension}
pub use Rattle.krl_format.specs.Krl.{authority_fields, extension_fields, header_fields, header_of, numbers_text, signature_fields, subsection_type}
pub use Rattle.krl_types.specs.Entry.{BitmapEntry, Entry, IdEntry, RangeEntry, SerialsEntry}
pub use Rattle.std.proofs.Common.{Bool, Err, IfSome, List, None, Ok, Option, Result}
pub use Rattle.std.proofs.Common.{Some, [], ap, append-nil, append_assoc, arith, cond, drop}
pub use Rattle.std.proofs.Common.{eq-eqb, eqb, eqb-true, false, flat_map, get_or, inl, inr}
pub use Rattle.std.proofs.Common.{le-leb, le-ltb, leb, leb-false, leb-true, length, length-append, length-drop}
pub use Rattle.std.proofs.Common.{length-take, lt-ltb, ltb, ltb-false, ltb-true, map, mul-le-mul_right, ne_eqb}
pub use Rattle.std.proofs.Common.{not, pow-add, refl, subst, suc, sym, take, take-append-drop}
pub use Rattle.std.proofs.Common.{take_all, true, w8, zero, ℕ, ◌%◌, ◌*◌, ◌++◌}
pub use Rattle.std.proofs.Common.{◌+◌, ◌-◌, ◌<◌, ◌==◌, ◌^◌, ◌↔◌, ◌∙◌, ◌∷◌}
pub use Rattle.std.proofs.Common.{◌≡◌, ◌≤◌, ◌⊎◌}
pub use Rattle.krl_types.specs.Naming.{EntryNames, NamesSame, SerialOf}
pub use Rattle.krl_format.specs.Place.{Expected, authority_after, base_of, bits_judged, can_end, expected, header_after, highest_bit}
pub use Rattle.krl_format.specs.Place.{names, next_bits, passes_end, within}
pub use Rattle.krl_types.specs.Item.{IsItem, item_entry, item_size}
pub use Rattle.krl_format.specs.Section.{content_of, judge, next_item, next_serial, next_subsection, section_of, section_of_type, section_row}
pub use Rattle.krl_format.specs.Section.{signature_type, subsection_of, subsection_of_type, subsection_row}
pub use Rattle.krl_format.specs.declared.section.Section.{Section}
pub use Rattle.krl_format.specs.declared.section.Subsection.{Subsection as SubsectionKind}
pub use Rattle.krl_format.specs.declared.place.field.Field.{Field}
pub use Rattle.krl_format.specs.Memory.{MayLackMemory, NeedsMemory}
pub use Rattle.krl_format.specs.Front.{HasRoom, IsEnd, IsFirstKrlFault, IsFront, IsLongestFront, LeadsTo, Passes, Reported}
pub use Rattle.krl_format.specs.Front.{State, ended, ends_early, limit, no_room, refused, start, state_after}
pub use Rattle.krl_format.specs.Front.{too_long}
pub use Rattle.krl_format.specs.declared.header.Header.{Header}
pub use Rattle.ssh_wire.specs.Wire.{IsBytes, strings}
pub use Rattle.ssh_wire.proofs.Digits.{IsBytes-back, IsBytes-front, bytes_as_bits}
pub use Rattle.ssh_wire.proofs.Fields.{IsBytes-in_string, length-number, length-numbers, length-string, number-number_of, number_of-number, number_of-one, one_byte}
pub use Rattle.krl_types.specs.declared.item_kind.ItemKind.{ItemKind}
pub use Rattle.krl_types.specs.declared.krl_fault.KrlFault.{KrlFault}
pub use Rattle.krl_format.specs.declared.place.Place.{Place}
pub use Rattle.krl_format.specs.Faults.{Says, failed_read, first, ran_out}
pub use Rattle.krl_format.specs.declared.place.field.Table.{Table}
pub use Rattle.std.proofs.lemmas.List.{append_cancel_left}
pub use Rattle.serial_set.specs.BitRuns.{big_endian}
pub use Rattle.std.specs.Int.{bit_at, leading_zeros}
pub use Rattle.std.proofs.lemmas.Nat.Bits.{bit_at-zero, bit_at_above, bit_at_cat_high, bit_at_cat_low}
pub use Rattle.std.proofs.lemmas.Bool.{cases_Bool, cases_lt, false≢true, lt-leb}
pub use Rattle.std.proofs.lemmas.List.Folds.{concat-append}
pub use Rattle.krl_types.proofs.Equivalences.{contains_one}
pub use Rattle.krl_format.specs.Field.{empty_header, fields_after, header_from, header_with, row_of, rows_of}
pub use Rattle.krl_format.specs.Entries.{entries_of, section_entries, subsection_entries}
pub use Rattle.ssh_wire.proofs.RowLaws.{table_front, table_more, unless_ok}
pub use Rattle.ssh_wire.proofs.Steps.{never_err, ok_is, ok_or_not, passed_ok}
unfoldable pub use Rattle.ssh_wire.specs.Wire.{number, number_of, string}
pub use Rattle.std.specs.Prelude.{slice_index, slice_index_or}
