-- The names that most proofs of this crate cite, passed on from one place. Declares nothing.
pub use Rattle.std.proofs.Common.{[], ◌*◌, ◌++◌, ◌+◌, ◌-◌, ◌/◌, ◌<◌, ◌^◌, ◌↔◌, ◌∙◌, ◌∷◌, ◌≡◌, ◌≤◌}
pub use Rattle.std.proofs.Common.{All, ap, append-nil, append_assoc, arith, Contains, drop, Err}
pub use Rattle.std.proofs.Common.{flat_map, inl, inr, length, length-append, List, map, Ok}
pub use Rattle.std.proofs.Common.{refl, Result, subst, suc, sum_by, sym, take, zero, ℕ}
pub use Rattle.krl_format.specs.Entries.{entries_of, subsection_entries}
pub use Rattle.krl_format.specs.Front.{limit}
pub use Rattle.krl_format.specs.Krl.{Certificates, Ids, IsNotNegative, Keys, Sha1s}
pub use Rattle.krl_format.specs.Krl.{Sha256s, SignaturesLast, SpelledSection, Spells, SpellsBitmap}
pub use Rattle.krl_format.specs.Krl.{SpellsEach, SpellsHashes, SpellsSection, SpellsSubsection}
pub use Rattle.krl_format.specs.declared.header.Header.{Header}
pub use Rattle.krl_types.proofs.Elements.{all_append, contains_none, some_cases}
pub use Rattle.krl_types.proofs.Equivalences.{contains_append, contains_cons, iff_both, iff_none}
pub use Rattle.krl_types.proofs.Equivalences.{iff_or}
pub use Rattle.krl_entries.specs.Revocations.{held, HoldsName, IsOrderlySection, IsOrderly, Means}
pub use Rattle.krl_entries.specs.Revocations.{Revocations, Section, section_with, SomeSection}
pub use Rattle.krl_plan.proofs.ListTexts.{length-begun, string_ended}
pub use Rattle.krl_plan.proofs.OnePlan.{content_few, length-plan, one_plan}
pub use Rattle.krl_plan.specs.Plan.{Allows, IsGroup, IsLeastPlan, IsPlan, reach}
pub use Rattle.krl_plan.specs.Written.{bitmap_of, bitmap_size, bits_of, content_of, first_of}
pub use Rattle.krl_plan.specs.Written.{group_text, plan_text, serials_from, serials_of}
pub use Rattle.krl_plan.specs.declared.group.Group.{Group}
pub use Rattle.krl_writer.specs.InLimit.{AddsAuthorities, AddsAuthority, IsWritten, Refuses}
pub use Rattle.krl_writer.specs.KrlText.{authorities_text, authority_content, authority_sections}
pub use Rattle.krl_writer.specs.KrlText.{authority_text, EachPlan, group_subsection, IsKrlText}
pub use Rattle.krl_writer.specs.KrlText.{listed_as, listed_text, plan_subsections, sections_of}
pub use Rattle.krl_writer.specs.KrlText.{header_text, sections_text, text_of, texts_text}
pub use Rattle.krl_writer.specs.declared.text_fault.TextFault.{TextFault}
pub use Rattle.krl_writer.specs.declared.text_fault.TextFault.TheVariants.{NoMemory, TooLong}
pub use Rattle.ssh_wire.proofs.Fields.{length-string}
pub use Rattle.ssh_wire.specs.Wire.{number, string, strings}
pub use Rattle.std.proofs.lemmas.Grind.{common_steps, flat_map-append}
pub use Rattle.std.proofs.lemmas.List.Elements.{All-contains_itself, All-tail, All-weaker}
pub use Rattle.std.proofs.lemmas.List.Elements.{recursion_from_All}
pub use Rattle.std.proofs.lemmas.Result.{err_from_is_err_and}
