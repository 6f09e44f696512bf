-- The names that most proofs of this crate cite, passed on from one place. Declares nothing.
pub use Rattle.std.proofs.Common.{[], ◌++◌, ◌+◌, ◌<◌, ◌∙◌, ◌∷◌, ◌≡◌, ◌≤◌, add-one, ap, append_assoc}
pub use Rattle.std.proofs.Common.{drop, drop-cons, Err, false, flat_map, get_or, length, List, map}
pub use Rattle.std.proofs.Common.{None, Ok, Option, refl, Result, Some, subst, sym, take, true, ℕ}
pub use Rattle.std.proofs.lemmas.List.{drop_all, map-append, take_all, take_more}
pub use Rattle.std.proofs.lemmas.Result.{err_from_is_err_and}
pub use Rattle.std.specs.Prelude.{OnOk}
pub use Rattle.run_faults.specs.RunFault.{RunFault}
pub use Rattle.run_output.proofs.RunParts.{carries_more, carries_none, carries_then}
pub use Rattle.run_output.specs.Carries.{Carries}
pub use Rattle.run_output.specs.Printer.{Printer}
pub use Rattle.run_output.specs.Run.{Item}
pub use Rattle.list_text.specs.Counts.{counted, counted_all}
pub use Rattle.list_text.specs.Facts.{Fact, fact_of, facts_of, HeldFact, ListFact}
pub use Rattle.list_text.specs.declared.counts.Counts.{Counts}
pub use Rattle.list_text.specs.declared.form.Form.{Form}
pub use Rattle.show_run.specs.Showing.{fact_item, fact_items, line_item, Shows}
unfoldable pub use Rattle.show_run.specs.Showing.{list_facts, lists_facts}
