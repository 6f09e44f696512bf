-- The names that most proofs of this crate cite, passed on from one place. Declares nothing.
pub use Rattle.std.proofs.Common.{[], ◌*◌, ◌++◌, ◌+◌, ◌<◌, ◌==◌, ◌∙◌, ◌∷◌, ◌≡◌, ◌≢◌, ◌≤◌}
pub use Rattle.std.proofs.Common.{ap, append_assoc, ap₂, arith, Bool, Err, false}
pub use Rattle.std.proofs.Common.{get_or, IfOk, inl, inr, length, List, map, None}
pub use Rattle.std.proofs.Common.{Ok, Option, refl, Result, slice_index_or, Some, subst, sym, take}
pub use Rattle.std.proofs.Common.{true, ℕ}
pub use Rattle.run_faults.specs.Keys.{FileKey, GivesKey, IsRefused, keys_of, Named}
pub use Rattle.run_faults.specs.RunFault.{ended_by, krl_cause, run_fault_of, RunFault}
pub use Rattle.run_faults.specs.Sizes.{blob_room, file_size, files_size, key_room, keys_room}
pub use Rattle.run_output.proofs.RunParts.{carries_more, carries_none, carries_passed}
pub use Rattle.run_output.proofs.RunParts.{carries_then, carries_withheld}
pub use Rattle.run_output.specs.Expected.{AreExpected}
pub use Rattle.run_output.specs.Run.{before, file_key_item, is_answered, Item, key_item}
pub use Rattle.run_output.specs.Run.{outcome_of, Passed, RunOutcome, said, said_of, Stopped}
pub use Rattle.run_output.specs.Run.{subject_item, unanswered_of}
unfoldable pub use Rattle.run_output.specs.Run.{file_items, files_items}
pub use Rattle.krl_format.specs.Entries.{entries_of}
pub use Rattle.krl_format.specs.declared.header.Header.{Header}
pub use Rattle.krl_queries.specs.Questions.{Asks, AsksMore, names_size}
pub use Rattle.krl_queries.specs.Questions.{serials_in, subject_size}
pub use Rattle.krl_entries.specs.Reasons.{is_revoked, revokes}
pub use Rattle.krl_entries.specs.Revocations.{IsOrderly, Means, nothing, Revocations}
pub use Rattle.krl_entries.specs.Revocations.{stored}
pub use Rattle.krl_runs.specs.Contents.{all_said, comment_line, comment_lines}
pub use Rattle.krl_runs.specs.Contents.{date_line, dump_text, fact_line, Known, known_lines}
pub use Rattle.krl_runs.specs.Contents.{known_of, version_line}
unfoldable pub use Rattle.krl_runs.specs.Contents.{contents_lines, header_lines}
pub use Rattle.krl_runs.specs.Query.{answer_of, AnswersAbout, ask, ask_by, asked, dumped}
pub use Rattle.krl_runs.specs.Query.{HasEntries, IsHeld}
unfoldable pub use Rattle.krl_runs.specs.Query.{asked_run_of, query_run_of}
pub use Rattle.krl_types.specs.Subject.{CertNames, Subject}
pub use Rattle.std.proofs.lemmas.Result.{err_from_is_err_and}
